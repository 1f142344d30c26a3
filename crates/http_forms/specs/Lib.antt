pub mod Forms
pub mod FormReading
