pub mod FaultLemmas
pub mod LineLemmas
pub mod SymbolLemmas
pub mod TextLemmas
pub mod RefreshLemmas
pub mod StartLemmas
