-- What is shown of a tree: widgets and the pages of both faces.
pub mod Widget
pub mod Page
pub mod Html
