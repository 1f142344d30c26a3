pub mod LiteralTokens
