mod FormLaws
