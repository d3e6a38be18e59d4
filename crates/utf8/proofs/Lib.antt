-- Characters that their first byte puts into the set, and all others of several bytes.
pub mod CommonLaws
pub mod SeveralLaws
