mod Moves
mod Grants
mod Listed
mod Spans
