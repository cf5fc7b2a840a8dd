pub mod BareBox
