pub mod Remainder
pub mod Digits
pub mod Lines
pub mod Reached
pub mod Words
-- what contracts cite, passed on from one place
pub use Digits.{is_digit}
pub use Lines.{Line, before_backslash, is_joined, is_line_feed, joined, lines_from, put_before, raw_lines_in}
pub use Reached.{IsReached}
pub use Remainder.{lines_behind}
pub use Words.{Statement, begins_with, is_blank, is_colon, statement_of, statement_of_words, statements, statements_from, words_of}
