-- What comes of an expression at a list of trees, by the rules of parsing expressions alone: nothing
-- is computed. (Bryan Ford, "Parsing Expression Grammars", 2004, section 3.) A decided part and the
-- bound on levels are what is added: a fault stops everything.
use Rattle.std.specs.Prelude.{ℕ, suc, zero, nat_le}
use Rattle.tt_data.specs.Editions.{year_of}
use Rattle.tt_data.specs.Forest.{Forest}
use Rattle.tt_data.specs.declared.edition.Edition.{Edition}
use Rattle.rust_grammar.specs.Expressions.{Expression, token, since, ◌⨾◌, ◌∣◌, many, maybe, surely, unless, rule, found, nothing_if}
use Rattle.rust_grammar.specs.Names.{Name}
use Rattle.rust_grammar.specs.Rules.{says}
use Rattle.rust_grammar.specs.Tokens.{Token, token_at}
use Rattle.rust_grammar.specs.declared.outcome.Outcome.{Outcome}
use Rattle.rust_grammar.specs.declared.outcome.Outcome.TheVariants.{Fits, Misses, Faults}

-- in an edition, with so many levels of rules left, this comes of an expression at a list
pub data Comes : Edition → ℕ → Expression → Forest → Outcome → Type 0 where
  as_token : (ed : Edition) (n : ℕ) (t : Token) (f : Forest) → Comes ed n (token t) f (found (token_at ed t f))
  by_edition : (ed : Edition) (n : ℕ) (first : Edition) (f : Forest) → Comes ed n (since first) f (nothing_if (nat_le (year_of first) (year_of ed)) f)
  -- the first part does not fit; or it does, and the second decides after it
  stopped : (ed : Edition) (n : ℕ) (a b : Expression) (f : Forest) → Comes ed n a f Misses → Comes ed n (a ⨾ b) f Misses
  went_on : (ed : Edition) (n : ℕ) (a b : Expression) (f g : Forest) (o : Outcome) → Comes ed n a f (Fits g) → Comes ed n b g o → Comes ed n (a ⨾ b) f o
  -- the first alternative fits; or it does not, and the second decides
  by_first : (ed : Edition) (n : ℕ) (a b : Expression) (f g : Forest) → Comes ed n a f (Fits g) → Comes ed n (a ∣ b) f (Fits g)
  by_second : (ed : Edition) (n : ℕ) (a b : Expression) (f : Forest) (o : Outcome) → Comes ed n a f Misses → Comes ed n b f o → Comes ed n (a ∣ b) f o
  -- it does not fit once more; or it does, and the others follow
  no_round : (ed : Edition) (n : ℕ) (a : Expression) (f : Forest) → Comes ed n a f Misses → Comes ed n (many a) f (Fits f)
  one_round : (ed : Edition) (n : ℕ) (a : Expression) (f g : Forest) (o : Outcome) → Comes ed n a f (Fits g) → Comes ed n (many a) g o → Comes ed n (many a) f o
  left_out : (ed : Edition) (n : ℕ) (a : Expression) (f : Forest) → Comes ed n a f Misses → Comes ed n (maybe a) f (Fits f)
  put_in : (ed : Edition) (n : ℕ) (a : Expression) (f g : Forest) → Comes ed n a f (Fits g) → Comes ed n (maybe a) f (Fits g)
  -- what is decided and does not fit is a fault
  not_found : (ed : Edition) (n : ℕ) (a : Expression) (f : Forest) → Comes ed n a f Misses → Comes ed n (surely a) f Faults
  was_found : (ed : Edition) (n : ℕ) (a : Expression) (f g : Forest) → Comes ed n a f (Fits g) → Comes ed n (surely a) f (Fits g)
  -- nothing is taken where it does not fit, and where it fits the whole does not
  is_absent : (ed : Edition) (n : ℕ) (a : Expression) (f : Forest) → Comes ed n a f Misses → Comes ed n (unless a) f (Fits f)
  is_there : (ed : Edition) (n : ℕ) (a : Expression) (f g : Forest) → Comes ed n a f (Fits g) → Comes ed n (unless a) f Misses
  -- a fault in a part is one of the whole
  fault_first : (ed : Edition) (n : ℕ) (a b : Expression) (f : Forest) → Comes ed n a f Faults → Comes ed n (a ⨾ b) f Faults
  fault_either : (ed : Edition) (n : ℕ) (a b : Expression) (f : Forest) → Comes ed n a f Faults → Comes ed n (a ∣ b) f Faults
  fault_round : (ed : Edition) (n : ℕ) (a : Expression) (f : Forest) → Comes ed n a f Faults → Comes ed n (many a) f Faults
  fault_maybe : (ed : Edition) (n : ℕ) (a : Expression) (f : Forest) → Comes ed n a f Faults → Comes ed n (maybe a) f Faults
  fault_surely : (ed : Edition) (n : ℕ) (a : Expression) (f : Forest) → Comes ed n a f Faults → Comes ed n (surely a) f Faults
  fault_unless : (ed : Edition) (n : ℕ) (a : Expression) (f : Forest) → Comes ed n a f Faults → Comes ed n (unless a) f Faults
  -- a name means its rule, one level deeper; below the last level it is a fault
  by_rule : (ed : Edition) (n : ℕ) (k : Name) (f : Forest) (o : Outcome) → Comes ed n (says k) f o → Comes ed (suc n) (rule k) f o
  too_deep : (ed : Edition) (k : Name) (f : Forest) → Comes ed zero (rule k) f Faults
