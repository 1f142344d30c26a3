pub mod SoloDesks
