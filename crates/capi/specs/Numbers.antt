-- Answers that are enums in Rattle, as the numbers that C and Rust get.
-- Assumes nothing.
use Rattle.std.specs.Prelude.{ℕ, Result, Ok, Err}
use Rattle.util.specs.declared.utf16.Utf16Error.{Utf16Error}
use Rattle.util.specs.declared.utf16.Utf16Error.TheVariants.{OddLength, NoRoom}

-- a count of bytes, or a number that no count reaches
abbrev pub utf16_number : Result ℕ Utf16Error → ℕ
utf16_number (Ok n) = n
utf16_number (Err OddLength) = 0xFFFFFFFFFFFFFFFF
utf16_number (Err NoRoom) = 0xFFFFFFFFFFFFFFFE
