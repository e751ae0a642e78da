-- Texts as bytes: a text in quotes stands for the codes of its characters, each below 128. `\n` is the line feed, code 10.
use Rattle.std.specs.Prelude.{ℕ, List, [], ◌∷◌, ◌++◌}
use Prim.Native.Char.{code}
use Prim.Native.String.{String, [] as ends, ◌∷◌ as ◌then◌}

unfoldable pub ascii : String → List ℕ
ascii ends = []
ascii (character then text) = code character ∷ ascii text

-- A line feed.
abbrev pub line_feed : ℕ
line_feed = 10

-- A line: its name with the sign `=`, its value, and a line feed.
abbrev pub line : List ℕ → List ℕ → List ℕ
line name value = name ++ value ++ line_feed ∷ []
