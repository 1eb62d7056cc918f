mod ContentLaws
mod DemoLaws
mod NeedLaws
mod WorldLaws
