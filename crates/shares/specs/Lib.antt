pub mod SecondHalf
