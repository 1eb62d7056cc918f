mod EmptyLaws
