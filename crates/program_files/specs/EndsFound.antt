-- Ends of modules, as they are found token by token.
use Rattle.std.specs.Prelude.{◌≡◌, ℕ, ◌+◌, ◌<◌, Bool, false, ◌&&◌, nat_eq, List, Option, Some}
use Rattle.std.specs.Prelude.{None, if◌then◌else◌}
use Rattle.crate_walk.specs.WholeTexts.{has_semicolon}
use Rattle.expander_run.specs.expander_session.Expanded.{Expanded}
use Rattle.program_files.specs.ModuleEnds.{ComesFrom, IsEndBehind}

-- a token that comes from the text may come from this offset
abbrev pub is_at : Option ℕ → ℕ → Bool
is_at None start = false
is_at (Some s) start = nat_eq s start

-- where a `;` is, behind a token that comes from an offset, once the token at `at` is passed
abbrev pub end_after : List ℕ → Option ℕ → ℕ → ℕ → Option ℕ → Option ℕ
end_after text before at start old =
    if is_at before start && has_semicolon text at then Some at else old

-- where the last one of `i` tokens comes from
pub record IsBefore (e : Expanded) (i : ℕ) (before : Option ℕ) : Type 0 where
  pub first : i ≡ 0 → before ≡ None
  pub own : (k start : ℕ) → k + 1 ≡ i → before ≡ Some start → ComesFrom e k start
  pub other : (k start : ℕ) → k + 1 ≡ i → before ≡ None → ComesFrom e k start → ⊥

-- where a `;` is, as far as it is among the first `i` tokens
pub record IsEndAmong (e : Expanded) (i start : ℕ) (found : Option ℕ) : Type 0 where
  pub some : (at : ℕ) → found ≡ Some at → IsEndBehind e start at
  pub none : (at : ℕ) → found ≡ None → (b : IsEndBehind e start at) → b.index + 1 < i → ⊥
