-- Where a line of the text stands.
pub mod LetteredLaws
