pub mod ValidatedLaws
