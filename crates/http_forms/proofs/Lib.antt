pub mod OneForm
pub mod FormLemmas
pub mod SomeForm
