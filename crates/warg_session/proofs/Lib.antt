mod PageSteps
mod RecordingSteps
mod RunSteps
mod TakenReplies
mod TurnSteps
