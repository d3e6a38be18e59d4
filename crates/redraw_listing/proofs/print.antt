-- Laws of printing a drawing's lines.
pub mod PrintLaws
