pub mod Fields
pub mod JsonValues
pub mod JsonLines
pub mod JsonReplies
pub mod JsonPages
pub mod WidgetKinds
