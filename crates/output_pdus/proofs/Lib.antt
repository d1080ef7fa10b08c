-- What the tests of an output say, and PDUs that fit a frame.
pub mod SendableLaws
pub mod FrameLaws
