pub mod Anew
pub mod Replay
pub use Rattle.warg_client.specs.ClientError
pub use Rattle.warg_client.specs.Other
