-- Laws of one character's slots and those of a plain line.
pub mod ReplaceLaws
pub mod GlyphLaws
pub mod PlainLaws
