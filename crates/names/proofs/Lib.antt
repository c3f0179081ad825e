pub mod ContentLaws
pub mod FrameSteps
pub mod FrameLaws
pub mod JudgeLaws
pub mod AskLaws
pub mod TakenLaws
pub mod Same
pub mod TellLaws
