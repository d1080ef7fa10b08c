-- which texts are read, and as what
pub mod Numbered
pub use Rattle.cfg_parser.specs.Judging
pub use Rattle.cfg_parser.specs.Looking
pub use Rattle.cfg_grammar.specs.Follows
pub use Rattle.cfg_grammar.specs.Texts
pub use Rattle.cfg_writing.specs.Written
