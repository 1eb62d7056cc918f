mod MentionLaws
mod WalkLaws
