-- the values that texts spell: of their types, within their ranges, and sound
pub mod ValueLaws
