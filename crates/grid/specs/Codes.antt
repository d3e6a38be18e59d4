-- The numbers that stand for an alignment and a section in an array, and the values that they stand for.
use Rattle.std.specs.Prelude.{◌≡◌, ℕ, ◌<◌, Result, MatchResult}
use Rattle.grid.specs.declared.TableAlignment.{TableAlignment}
use Rattle.grid.specs.declared.GridTableSection.{GridTableSection}
use Rattle.grid.specs.declared.UnknownCode.{UnknownCode}
use Rattle.grid.specs.Flat.{alignment_code, code_alignment, section_code, code_section}

abbrev pub IsAlignmentCode : TableAlignment → ℕ → Type 0
IsAlignmentCode alignment code = code ≡ alignment_code alignment

abbrev pub IsSectionCode : GridTableSection → ℕ → Type 0
IsSectionCode section code = code ≡ section_code section

-- the alignment with this code, or the code that no alignment has
abbrev pub DecodesAlignment : ℕ → Result TableAlignment UnknownCode → Type 0
DecodesAlignment code r = MatchResult r (λ a. (a ≡ code_alignment code) × (alignment_code a ≡ code)) (λ e. (e.0 ≡ code) × (3 < code))

-- the section with this code, or the code that no section has
abbrev pub DecodesSection : ℕ → Result GridTableSection UnknownCode → Type 0
DecodesSection code r = MatchResult r (λ s. (s ≡ code_section code) × (section_code s ≡ code)) (λ e. (e.0 ≡ code) × (2 < code))
