-- A printed line: its fields with one space between them, and byte 10 at the end.
use Rattle.std.specs.Prelude.{ℕ, List, [], ◌∷◌, ◌++◌, map}
use Prim.Native.Char.{code}
use Prim.Native.String.{String, [] as empty, ◌∷◌ as ◌then◌}
use Rattle.lines.specs.Decimal.{digit_code, decimal}

-- the ASCII codes of a word
unfoldable pub text : String → List ℕ
text empty = []
text (c then rest) = code c ∷ text rest

-- fields, with a space before each
unfoldable pub spaced : List (List ℕ) → List ℕ
spaced [] = []
spaced (field ∷ fields) = 32 ∷ (field ++ spaced fields)

-- a word and the other fields
unfoldable pub line_of : String → List (List ℕ) → List ℕ
line_of word fields = text word ++ (spaced fields ++ (10 ∷ []))

-- a word and numbers
unfoldable pub numbered : String → List ℕ → List ℕ
numbered word numbers = line_of word (map decimal numbers)

-- rounds R facts F
unfoldable pub rounds_and_facts : (rounds facts : ℕ) → List ℕ
rounds_and_facts rounds facts = line_of "rounds" (decimal rounds ∷ text "facts" ∷ decimal facts ∷ [])

-- the marks' digits are one field; on an empty line there is none
abbrev pub marks_fields : List ℕ → List (List ℕ)
marks_fields [] = []
marks_fields (mark ∷ others) = map digit_code (mark ∷ others) ∷ []

-- marks and their digits
unfoldable pub marks_of : List ℕ → List ℕ
marks_of marks = line_of "marks" (marks_fields marks)
