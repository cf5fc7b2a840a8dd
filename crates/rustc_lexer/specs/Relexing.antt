-- How an edited text is relexed, and its new tokens are spliced in.
use Rattle.std.specs.Prelude.{◌≡◌, ◌==◌, ◌<◌, ◌≤◌, ◌+◌, ◌-◌, ◌^◌, ◌&&◌, ℕ, true, nat_le, List, [], ◌∷◌, ◌++◌, sum_by, length, take, drop, chars, IsUtf8, IsCharBoundary, if◌then◌else◌}
use Rattle.std.specs.List.{position_or_len, list_any, splice}
use Rattle.rustc_lexer.specs.Edit.{boundaries_from, edited, front_of, is_clear_of, moves_to}
use Rattle.rustc_lexer.specs.Lexing.{tokens_of}
use Rattle.rustc_lexer.specs.declared.relex.checkpoints.Checkpoint.{Checkpoint}
use Rattle.rustc_lexer.specs.declared.relex.checkpoints.Relexed.{Relexed}
use Rattle.rustc_lexer.specs.declared.token.Token.{Token}

-- how many bytes the tokens have
abbrev pub total : List Token → ℕ
total ts = sum_by (λ t. t.len) ts

-- how many of the new tokens, which begin at `at`, are lexed until one of their boundaries is one
-- of the old tokens', which begin at `to`
unfoldable pub count_to_meeting : ℕ → List Token → ℕ → List Token → ℕ
count_to_meeting at new to old = position_or_len (λ place. list_any (λ b. b == place) (boundaries_from to old)) (boundaries_from at new)

-- the first of the tokens that were left is added to the fresh ones, and has so many bytes
abbrev pub LexesOne : List Token → List Token → List Token → List Token → ℕ → Type 0
LexesOne old new fresh more len = (t : Token) × (old ≡ t ∷ new) × (more ≡ fresh ++ t ∷ []) × (len ≡ t.len)

-- the text's tokens from `at` on, up to the first boundary of the old ones, which begin at `to`
abbrev pub lexed_again : List ℕ → ℕ → ℕ → List Token → List Token
lexed_again text at to old = take (count_to_meeting at (tokens_of (chars (drop at text))) to old) (tokens_of (chars (drop at text)))

-- the checkpoint is a boundary of the tokens, at its offset
abbrev pub IsCheckpoint : List Token → Checkpoint → Type 0
IsCheckpoint ts m = (m.tokens ≤ length ts) × (m.place ≡ total (take m.tokens ts))

-- the checkpoint can be in a text
abbrev pub IsInRange : Checkpoint → Type 0
IsInRange m = (m.tokens < 2 ^ 32) × (m.place < 2 ^ 32)

-- `last` is one character before `start`, or both are the start of the text
pub record IsLastChar (text : List ℕ) (start last : ℕ) : Type 0 where
  pub boundary : IsCharBoundary text last
  pub before : last ≤ start
  pub one : 0 < start → length (chars (take (start - last) (drop last text))) ≡ 1

-- what is clear of `start` is up to offset `run`, and two characters before `start`
pub record IsRunStart (text : List ℕ) (start run : ℕ) : Type 0 where
  pub before : run ≤ start
  pub clear : (at : ℕ) → IsCharBoundary text at → is_clear_of text start at
      ≡ (nat_le at run && nat_le 2 (length (chars (take (start - at) (drop at text)))))

-- the first k tokens are those that end clear of `start`, and they end at `at`
pub record IsBegun (text : List ℕ) (ts : List Token) (start k at : ℕ) : Type 0 where
  pub count : k ≡ front_of text start
  pub is_at : at ≡ total (take k ts)
  pub clear : 0 < k → is_clear_of text start at ≡ true
  pub within : k ≤ length ts

-- the first `passed` of the tokens `old`, which begin at `at`, end at `bound`, which is not
-- before `stop`; the boundaries that an edit moves are those from there on
pub record IsScan (at stop passed bound : ℕ) (old : List Token) : Type 0 where
  pub place : bound ≡ at + total (take passed old)
  pub within : passed ≤ length old
  pub behind : stop ≤ bound
  pub moves : (m p : ℕ) → list_any (moves_to stop m p) (boundaries_from at old) ≡ list_any (moves_to stop m p) (boundaries_from bound (drop passed old))

-- after the first k of the tokens `ts`, which end at `at`, and before those from index `behind`
-- on, the tokens are those of the new text, lexed until they meet a boundary of the old ones,
-- which begin at `to` after `stop` tokens; the checkpoint is this boundary
pub record IsSpliced (new : List ℕ) (ts tokens : List Token) (k at stop to behind : ℕ) (m : Checkpoint) : Type 0 where
  pub placed : tokens ≡ splice ts k behind (lexed_again new at to (drop stop ts))
  pub count : length (lexed_again new at to (drop stop ts)) ≡ count_to_meeting at (tokens_of (chars (drop at new))) to (drop stop ts)
  pub lexed : m.tokens ≡ k + length (lexed_again new at to (drop stop ts))
  pub place : m.place ≡ at + total (lexed_again new at to (drop stop ts))
  pub met : m.place ≡ to + total (take (behind - stop) (drop stop ts))
  pub order : stop ≤ behind
  pub within : behind ≤ length ts

-- the text is an edited one, and `ts` are the tokens of the old: the first k of them are those
-- kept before the edit and end at `at`; `passed` more end at `bound`, which is not before the
-- edit's end; offset `stop` is moved to `moved`
pub record IsChanged (new : List ℕ) (ts : List Token) (k at passed bound stop moved : ℕ) : Type 0 where
  pub old : List ℕ
  pub start : ℕ
  pub replacement : List ℕ
  pub utf8 : IsUtf8 old
  pub begins : IsCharBoundary old start
  pub ends : IsCharBoundary old stop
  pub order : start ≤ stop
  pub small : length old < 2 ^ 32
  pub text : new ≡ edited old start stop replacement
  pub place : moved ≡ start + length replacement
  pub tokens : ts ≡ tokens_of (chars old)
  pub begun : IsBegun old ts start k at
  pub scan : IsScan at stop passed bound (drop k ts)

-- the old and the new tokens agree before the one boundary and after the other
pub record IsRelexed (old new : List Token) (m : Relexed) : Type 0 where
  pub front : IsCheckpoint old m.front
  pub front_there : IsCheckpoint new m.front
  pub back : IsCheckpoint old m.old
  pub back_there : IsCheckpoint new m.new
  pub order : m.front.tokens ≤ m.new.tokens
  pub same_front : take m.front.tokens new ≡ take m.front.tokens old
  pub same_back : drop m.new.tokens new ≡ drop m.old.tokens old

-- the checkpoint's boundary in the edited text: where lexing began, if its own was not kept
abbrev pub moved_checkpoint : Relexed → Checkpoint → Checkpoint
moved_checkpoint m checkpoint =
    if nat_le checkpoint.tokens m.front.tokens then checkpoint
    else if nat_le m.old.tokens checkpoint.tokens
    then record { tokens = checkpoint.tokens - m.old.tokens + m.new.tokens; place = checkpoint.place - m.old.place + m.new.place }
    else m.front
