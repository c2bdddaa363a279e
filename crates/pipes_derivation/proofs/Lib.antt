pub mod Choice
pub mod PathLaws
pub mod ArgLaws
pub mod StepLaws
pub mod StepLists
pub mod DerivationTexts
pub mod RuleWords
pub mod PrintLaws
