-- what the words of a line come to, and the first line that is refused
pub mod Kinds
pub mod Keywords
pub mod Reader
pub mod Contents
pub mod Judging
pub mod Text
pub mod Looking
