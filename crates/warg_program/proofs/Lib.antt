mod AbleLaws
mod CommandLaws
mod ComposeLaws
mod DemoLaws
mod SourceLaws
mod StopLaws
mod RootLaws
