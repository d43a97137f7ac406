pub mod MadeParts
pub mod Reports
pub mod NoteLines
pub mod Decoded
pub mod Listed
mod TrialsCounted
mod TrialsDecoded
mod TrialsDone
mod ClosedRasters
mod ClosedStreams
mod ClosedCameras
pub mod GavePictures
pub mod GavePicks
pub mod ReadOut
pub mod PacketInputs
pub mod DamageParts
pub mod Statuses
pub mod Inputs
pub mod Encoded
pub mod CameraWorks
pub mod Muxed
pub mod Behaviours
pub mod BookRuns
pub mod BookSettings
pub mod BareRuns
pub mod Laws
pub mod OwnName
