mod RefusedLaws
