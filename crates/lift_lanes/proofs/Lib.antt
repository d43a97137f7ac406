mod LaneSteps
mod Loads
mod Steps
mod TwoSteps
