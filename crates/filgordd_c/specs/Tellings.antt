-- What a call tells of the session that a handle holds.
use Rattle.std.specs.Prelude.{◌≡◌, ℕ, List, length, Option, Some, None, ◌⊎◌}
use Rattle.cfg_options.specs.declared.options.CfgOptions.{CfgOptions}
use Rattle.filgordd_c.specs.Answered.{Copied}
use Rattle.filgordd_c.specs.Calls.{CannotOpen, IsNew}
use Rattle.filgordd_c.specs.Codes.{number}
use Rattle.filgordd_c.specs.Conditions.{IsSetOf, NoSet}
use Rattle.filgordd_c.specs.declared.code.Code.{Code}
use Rattle.filgordd_c.specs.declared.code.Code.TheVariants.{Closed, Done}
use Rattle.filgordd_c.specs.declared.live.Live.{Live}
use Rattle.filgordd_c.specs.declared.options.SessionOptions.{SessionOptions}

-- a number is that of a code which means this
pub record Tells (meaning : Code → Type 0) (n : ℕ) : Type 0 where
  pub code : Code
  pub is : n ≡ number code
  pub means : meaning code

-- what a call told of what the handle holds before and after it; or that it holds nothing, and then
-- this is kept
abbrev pub Told : Type 0 → (Live → Live → Code → Type 0) → Option Live → Option Live → Code → Type 0
Told kept told (Some old) (Some new) c = told old new c
Told kept told None None c = (c ≡ Closed) × kept
Told kept told _ _ c = ⊥

-- the same of a call that changes nothing that the handle holds
abbrev pub Looks : Type 0 → (Live → Code → Type 0) → Option Live → Option Live → Code → Type 0
Looks kept told = Told kept (λ old new c. (new ≡ old) × told old c)

-- a session was opened under this set in place of what the handle held, or why not, and then
-- nothing changed
abbrev pub Opened : List ℕ → SessionOptions → Option CfgOptions → Option Live → Option Live → Code
    → Type 0
Opened text options set old (Some live) Done = IsNew text options set live
Opened text options set old None Done = ⊥
Opened text options set old new c = CannotOpen text options c × (new ≡ old)

-- these words name the options of a set, and the call did so under it; or why they name none, and
-- then nothing changed
abbrev pub OpenedBy : List (List ℕ) → List ℕ → SessionOptions → Option Live → Option Live → Code
    → Type 0
OpenedBy words text options old new c =
    ((set : CfgOptions) × IsSetOf words set × Opened text options (Some set) old new c)
    ⊎ (NoSet words c × (new ≡ old))

-- the text is copied, and its length told
abbrev pub TextTold : List ℕ → List ℕ → ℕ → Live → Code → Type 0
TextTold old new len live c = Copied live.session.text old new c × (len ≡ length live.session.text)
