mod AnewLaws
mod ReplayLaws
