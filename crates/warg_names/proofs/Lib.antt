mod Following
mod MarkSteps
mod StdCuts
