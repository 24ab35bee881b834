pub mod WholeFrames
