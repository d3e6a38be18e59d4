-- Computed examples of the definitions.
mod Examples
-- Laws of the definitions, a file each.
pub mod CharactersLaws
pub mod RuleLaws
pub mod TrimLaws
pub mod Utf8Laws
-- Lines of which something is known: UTF-8 of the set, plain, cut where no character is cut.
pub mod KnownLaws
pub mod PlainLaws
pub mod PartLaws
-- Lines put together: the columns that bytes take one after another, a rule byte by byte.
pub mod SpanLaws
pub mod RuleBytes
-- A line and the same line trimmed; a rule is plain.
pub mod TrimmedLaws
-- Columns added up over the bytes.
pub mod ByteColumnsLaws
