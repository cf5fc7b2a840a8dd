-- What the call for JSON tells of the last answer.
use Rattle.std.specs.Prelude.{◌≡◌, ℕ, ◌<◌, ◌^◌, List, length, true, false, Option, Some, None, ⊤}
use Rattle.std.specs.Prelude.{◌⊎◌}
use Rattle.serde_json.specs.Written.{compact_text}
use Rattle.reply_json.specs.Lines.{expansion, unread}
use Rattle.filgordd_c.specs.Answered.{Copied}
use Rattle.filgordd_c.specs.declared.code.Code.{Code}
use Rattle.filgordd_c.specs.declared.code.Code.TheVariants as code
use Rattle.filgordd_c.specs.declared.live.Answer.{Answer}
use Rattle.filgordd_c.specs.declared.live.Answer.TheVariants as last
use Rattle.filgordd_c.specs.declared.live.Live.{Live}

-- the line of JSON that tells of an answer of this text, if there is an answer
abbrev pub line_of : List ℕ → Answer → Option (List ℕ)
line_of text last.Nothing = None
line_of text (last.Read e) = Some (compact_text (expansion text e))
line_of text (last.Unread fault) = Some (compact_text (unread text fault))

-- a printed text of fewer than 2^32 bytes
abbrev pub IsShort : Answer → Type 0
IsShort (last.Read e) = length e.printed < 2 ^ 32
IsShort _ = ⊤

-- why there is no line
abbrev pub NoLine : List ℕ → Answer → Code → Type 0
NoLine text answer code.Nothing = answer ≡ last.Nothing
NoLine text answer code.Length = (length text < 2 ^ 32) × IsShort answer → ⊥
NoLine text answer code.Memory = ⊤
NoLine text answer _ = ⊥

-- the line of the last answer is copied, and its length told, if there is room
abbrev pub LineTold : List ℕ → List ℕ → ℕ → Live → Code → Type 0
LineTold old new len live c = (line : List ℕ) × (live.is_current ≡ true)
    × (line_of live.session.text live.answer ≡ Some line) × Copied line old new c
    × (len ≡ length line)

-- that; or why there is no line, or that the text was edited since, and then nothing is written
abbrev pub JsonTold : List ℕ → List ℕ → ℕ → ℕ → Live → Code → Type 0
JsonTold old new len_old len live code.Done = LineTold old new len live code.Done
JsonTold old new len_old len live code.Room = LineTold old new len live code.Room
JsonTold old new len_old len live c =
    (NoLine live.session.text live.answer c ⊎ (c ≡ code.Nothing) × (live.is_current ≡ false))
    × (new ≡ old) × (len ≡ len_old)
