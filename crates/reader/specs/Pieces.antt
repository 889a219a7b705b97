-- Pieces of a text and their places, and the words of a line.
use Rattle.std.specs.Prelude.{◌≡◌, ℕ, ◌+◌, ◌≤◌, List, [], ◌∷◌, ◌++◌, length, take, drop, Some, None, Option, MatchOption}
use Rattle.std.specs.Iterator.{Count, at_most}
use Rattle.format.specs.Faults.{cut}
use Rattle.reader.specs.declared.piece.Piece.{Piece}
use Rattle.reader.specs.declared.words.Words.{Words}

-- a piece is a part of a text
pub record Lies (text : List ℕ) (p : Piece) : Type 0 where
  pub short : length text ≤ 8192
  pub within : p.byte + length p.bytes.now ≤ length text
  pub there : p.bytes.now ≡ take (length p.bytes.now) (drop p.byte text)

-- what stands in a piece between bytes c, where there is a piece
abbrev pub parts : ℕ → Option Piece → List (List ℕ)
parts c None = []
parts c (Some p) = cut c p.bytes.now

-- a piece is a front, a byte c and a rest
pub record Follows (c : ℕ) (whole front rest : Piece) : Type 0 where
  pub line : rest.line ≡ whole.line
  pub byte : rest.byte ≡ whole.byte + length front.bytes.now + 1
  pub all : whole.bytes.now ≡ front.bytes.now ++ (c ∷ rest.bytes.now)

-- the front of a piece, which has no byte c, and the rest after that byte, if there is one
pub record Parted (c : ℕ) (whole front : Piece) (rest : Option Piece) : Type 0 where
  pub line : front.line ≡ whole.line
  pub byte : front.byte ≡ whole.byte
  pub is : cut c whole.bytes.now ≡ front.bytes.now ∷ parts c rest
  pub after : MatchOption rest (front.bytes.now ≡ whole.bytes.now) (Follows c whole front)

-- the next word of a line is what stands before its first space
pub record WordFirst (s : Words) (w : Piece) (t : Words) : Type 0 where
  pub whole : Piece
  pub left : s.rest ≡ Some whole
  pub parted : Parted 32 whole w t.rest

abbrev pub NextWord : Words → Option Piece → Words → Type 0
NextWord s r t = MatchOption r ((s.rest ≡ None) × (t.rest ≡ None)) (λ w. WordFirst s w t)

-- so many words are left
abbrev pub words_left : Words → Count
words_left s = at_most (length (parts 32 s.rest))
