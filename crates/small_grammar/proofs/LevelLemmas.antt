-- Types step by step: what is left behind a type of which only the beginning is passed.
use Rattle.std.proofs.Common.{◌≡◌, ℕ, ◌+◌, ◌*◌, ◌≤◌, Bool, true, false, ◌&&◌, nat_eq, List, [], ◌∷◌, ◌++◌, refl, sym, ap, ◌∙◌, subst, arith, Option, Some, None}
use Rattle.std.proofs.lemmas.Bool.{eqb-true, and_parts}
use Rattle.std.specs.Prelude.{IfSome, option_and_then, unwrap_or, not}
use Rattle.tt_data.specs.Forest.{Forest, empty, leaf, group, size}
use Rattle.tt_data.specs.declared.leaf.Leaf.TheVariants as as_leaf
use Rattle.tt_data.specs.declared.leaf.Punct.{Punct}
use Rattle.tt.specs.Glued.{is_alone}
use Rattle.small_grammar.proofs.ChoiceLemmas.{skip, both, or_same, two_parts}
use Rattle.small_grammar.proofs.TakingLemmas.{maybe_shorter, then_on, then_none, many_on, many_none, round_on, parts_begin, parts_on}
use Rattle.small_grammar.proofs.TypeLemmas.{begins}
use Rattle.small_grammar.specs.declared.type_steps.Begun.TheVariants.{Whole, Named, Angle, Arrow}
use Rattle.small_grammar.specs.declared.type_steps.Follow.{Follow}
use Rattle.small_grammar.specs.declared.type_steps.Follow.TheVariants.{Segments, Call, Bounds}
use Rattle.small_grammar.specs.declared.types.Level.{Level}
use Rattle.small_grammar.specs.declared.types.Level.TheVariants.{Args, Result}
use Rattle.small_grammar.specs.Expressions.{Expression, ◌⨾◌, ◌∣◌, many, maybe, Taking, otherwise}
use Rattle.small_grammar.specs.Passing.{least}
use Rattle.small_grammar.specs.declared.type_steps.Begun.{Begun}
use Rattle.small_grammar.specs.declared.type_steps.Next.{Next}
use Rattle.std.specs.Option.{option_to_list}
use Rattle.small_grammar.specs.declared.type_steps.Next.TheVariants.{Part, End}
use Rattle.small_grammar.specs.Levels.{gone, size_of, weight, next_weight, after, segments, ending, behind, behind_args, left, closing, outside, level, within}
use Rattle.small_grammar.specs.SmallGrammar.{takes, type, arrow, arg, generics, seg, tpath, bound, lifetime, name, group as any_group, literal, paren, brace, bracket, single, word}
use Rattle.small_grammar.specs.Signs.{bare_type}
use Rattle.small_grammar.specs.Tokens.{token_at, puncts}
use Rattle.small_grammar.specs.Text.{◌>>◌}

-- ---- what is left behind an expression

pub after_size : (e : Expression) (f : Forest) → size (after e f) ≤ size f
after_size e f = maybe_shorter e f f (after e f) (takes e f) refl refl refl

pub after_some : (e : Expression) (f g : Forest) → takes e f ≡ Some g → after e f ≡ g
after_some e f g h = ap (λ o. unwrap_or o f) h

pub after_none : (e : Expression) (f : Forest) → takes e f ≡ None → after e f ≡ f
after_none e f h = ap (λ o. unwrap_or o f) h

pub after_round : (e : Expression) → 1 ≤ least e → (f g : Forest) → takes e f ≡ Some g → after (many e) f ≡ after (many e) g
after_round e one f g h = ap (λ o. unwrap_or o f) (many_on e one f g h)

pub no_rounds : (e : Expression) (f : Forest) → takes e f ≡ None → after (many e) f ≡ f
no_rounds e f h = ap (λ o. unwrap_or o f) (many_none e f h)

-- ---- segments

abbrev another : Expression
another = single "::" ⨾ (seg ∣ generics)

pub another_segment : (follow : Follow) (f g : Forest) → takes another f ≡ Some g → behind follow f ≡ behind follow g
another_segment follow f g h = ap (ending follow) (after_round another (omega arith) f g h)

pub no_segment : (follow : Follow) (f : Forest) → takes another f ≡ None → behind follow f ≡ ending follow f
no_segment follow f h = ap (ending follow) (no_rounds another f h)

-- a segment behind `::`
pub by_name : (follow : Follow) (f g h : Forest) → takes (single "::") f ≡ Some g → takes name g ≡ Some h →
    behind follow f ≡ behind follow (after (generics ∣ paren ⨾ arrow) h)
unfolding seg
by_name follow f g h e d =
    another_segment follow f (after (generics ∣ paren ⨾ arrow) h)
    (round_on (single "::") (seg ∣ generics) f g (after (generics ∣ paren ⨾ arrow) h) e
    (ap (λ o. otherwise (option_and_then (takes (maybe (generics ∣ paren ⨾ arrow))) o) (takes generics) g) d))

-- neither a segment nor arguments behind `::`
no_seg : (f : Forest) → takes name f ≡ None → takes seg f ≡ None
unfolding seg
no_seg f h = then_none name (maybe (generics ∣ paren ⨾ arrow)) f h

no_generics : (f : Forest) → takes (single "<") f ≡ None → takes generics f ≡ None
unfolding generics
no_generics f h = then_none (single "<") (maybe (arg ⨾ many (single "," ⨾ arg) ⨾ maybe (single ",")) ⨾ single ">") f h

pub no_colons : (follow : Follow) (f : Forest) → takes (single "::") f ≡ None → behind follow f ≡ ending follow f
no_colons follow f h = no_segment follow f (then_none (single "::") (seg ∣ generics) f h)

no_other : (f g : Forest) → takes (single "::") f ≡ Some g → takes name g ≡ None → takes generics g ≡ None → takes another f ≡ None
no_other f g e d h = then_on (single "::") (seg ∣ generics) f g e ∙ skip seg generics g (no_seg g d) ∙ h

pub nothing_behind : (follow : Follow) (f g : Forest) → takes (single "::") f ≡ Some g → takes name g ≡ None → takes (single "<") g ≡ None →
    behind follow f ≡ ending follow f
nothing_behind follow f g e d h = no_segment follow f (no_other f g e d (no_generics g h))

-- ---- places at which nothing that may follow a type fits

-- at a punct with none of the signs that may follow
no_ending : (follow : Follow) (p : Punct) (rest : Forest) (c : ℕ) → p.char ≡ c → nat_eq c 33 ≡ false → nat_eq c 43 ≡ false →
    ending follow (leaf (as_leaf.Punct p) rest) ≡ leaf (as_leaf.Punct p) rest
unfolding token_at
no_ending Segments p rest c e h i = refl
no_ending Call p rest c e h i = after_none (single "!" ⨾ any_group) (leaf (as_leaf.Punct p) rest) (rw (e, h) refl)
no_ending Bounds p rest c e h i = no_rounds (single "+" ⨾ bound) (leaf (as_leaf.Punct p) rest) (rw (e, i) refl)

no_closing : (p : Punct) (rest : Forest) (c : ℕ) → p.char ≡ c → nat_eq c 44 ≡ false → nat_eq c 62 ≡ false → takes closing (leaf (as_leaf.Punct p) rest) ≡ None
unfolding token_at
no_closing p rest c e h i =
    then_on (many (single "," ⨾ arg) ⨾ maybe (single ",")) (single ">") (leaf (as_leaf.Punct p) rest) (leaf (as_leaf.Punct p) rest)
    (then_on (many (single "," ⨾ arg)) (maybe (single ",")) (leaf (as_leaf.Punct p) rest) (leaf (as_leaf.Punct p) rest)
    (many_none (single "," ⨾ arg) (leaf (as_leaf.Punct p) rest) (rw (e, h) refl))
    ∙ rw (e, h) refl)
    ∙ rw (e, i) refl

passes_any : (b : Bool) (o : Option Forest) (g : Forest) → (b >> o) ≡ Some g → b ≡ true
passes_any true o g e = refl
passes_any false o g e = absurd cc

-- a list that begins with two puncts of these characters
begins_two : (c d : ℕ) (f g : Forest) → token_at (puncts (c ∷ d ∷ [])) f ≡ Some g → (p : Punct) × (rest : Forest) × (f ≡ leaf (as_leaf.Punct p) rest) × (p.char ≡ c)
unfolding token_at
begins_two c d empty g e = absurd cc
begins_two c d (leaf (as_leaf.Ident i) rest) g e = absurd cc
begins_two c d (leaf (as_leaf.Literal l) rest) g e = absurd cc
begins_two c d (group b inner rest) g e = absurd cc
begins_two c d (leaf (as_leaf.Punct p) rest) g e =
    let first = passes_any (nat_eq p.char c && not (is_alone p.spacing)) (token_at (puncts (d ∷ [])) rest) g e in
    (p, rest, refl, eqb-true p.char c (and_parts (nat_eq p.char c) (not (is_alone p.spacing)) first).0)

-- neither what may follow a type nor the end of arguments comes
abbrev pub Stuck : Forest → Type 0
Stuck f = ((follow : Follow) → behind follow f ≡ f) × (takes closing f ≡ None)

angle_none : (p : Punct) (rest : Forest) → p.char ≡ 60 → takes (single "::") (leaf (as_leaf.Punct p) rest) ≡ None
unfolding token_at
angle_none p rest e = rw e refl

pub at_angle : (f g : Forest) → takes (single "<") f ≡ Some g → Stuck f
at_angle f g e =
    let at = begins 60 f g e in
    rw at.2 (
      (λ follow. no_colons follow (leaf (as_leaf.Punct at.0) at.1) (angle_none at.0 at.1 at.3) ∙ no_ending follow at.0 at.1 60 at.3 refl refl),
      no_closing at.0 at.1 60 at.3 refl refl,
    )

pub at_colons : (f g : Forest) → takes (single "::") f ≡ Some g → takes name g ≡ None → takes generics g ≡ None → Stuck f
at_colons f g e d h =
    let at = begins_two 58 58 f g e in (
      (λ follow. no_segment follow f (no_other f g e d h) ∙ rw at.2 (no_ending follow at.0 at.1 58 at.3 refl refl)),
      rw at.2 (no_closing at.0 at.1 58 at.3 refl refl),
    )

-- no name and no parentheses begin with `<`
name_none : (p : Punct) (rest : Forest) → takes name (leaf (as_leaf.Punct p) rest) ≡ None
unfolding token_at
name_none p rest = refl

paren_none : (p : Punct) (rest : Forest) → takes paren (leaf (as_leaf.Punct p) rest) ≡ None
unfolding token_at
paren_none p rest = refl

no_name : (f g : Forest) → takes (single "<") f ≡ Some g → takes name f ≡ None
no_name f g e = (let at = begins 60 f g e in rw at.2 (name_none at.0 at.1))

no_paren : (f g : Forest) → takes (single "<") f ≡ Some g → takes paren f ≡ None
no_paren f g e = (let at = begins 60 f g e in rw at.2 (paren_none at.0 at.1))

no_colons_at_angle : (f g : Forest) → takes (single "<") f ≡ Some g → takes (single "::") f ≡ None
no_colons_at_angle f g e = (let at = begins 60 f g e in rw at.2 (angle_none at.0 at.1 at.3))

-- ---- arguments

-- where `<` comes first, `::` does not
pub angle_first : (f g : Forest) → takes (single "<") f ≡ Some g → Some g ≡ takes (single "<") (after (single "::") f)
angle_first f g e = sym (ap (takes (single "<")) (after_none (single "::") f (no_colons_at_angle f g e)) ∙ e)

named_args : (follow : Follow) (f : Forest) (o : Option Forest) → Stuck f → takes paren f ≡ None →
    behind_args follow f o ≡ behind follow (unwrap_or (otherwise o (takes (paren ⨾ arrow)) f) f)
named_args follow f None stuck none = sym (ap (λ p. behind follow (unwrap_or p f)) (then_none paren arrow f none) ∙ stuck.0 follow)
named_args follow f (Some g) stuck none = refl

-- `<` behind a name
pub angle_behind_name : (follow : Follow) (f g : Forest) → takes (single "<") f ≡ Some g → left (Angle f follow) ≡ left (Named f follow)
angle_behind_name follow f g e =
    ap (λ o. behind_args follow f (takes generics (unwrap_or o f))) (no_colons_at_angle f g e)
    ∙ named_args follow f (takes generics f) (at_angle f g e) (no_paren f g e)

segment_args : (follow : Follow) (f g : Forest) (o : Option Forest) → takes (single "::") f ≡ Some g → takes name g ≡ None → takes generics g ≡ o →
    behind_args follow f o ≡ behind follow f
segment_args follow f g None e d h = sym ((at_colons f g e d h).0 follow)
segment_args follow f g (Some k) e d h =
    sym (another_segment follow f k (round_on (single "::") (seg ∣ generics) f g k e (skip seg generics g (no_seg g d) ∙ h)))

-- `<` behind `::`
pub angle_behind_colons : (follow : Follow) (f g : Forest) → takes (single "::") f ≡ Some g → takes name g ≡ None → left (Angle f follow) ≡ behind follow f
angle_behind_colons follow f g e d =
    ap (λ o. behind_args follow f (takes generics (unwrap_or o f))) e ∙ segment_args follow f g (takes generics g) e d refl

-- ---- levels

-- the innermost level
pub within_push : (around : Taking) (ls : List Level) (l : Level) → within around (ls ++ l ∷ []) ≡ level (within around ls) l
within_push around [] l = refl
within_push around (m ∷ ls) l = within_push (level around m) ls l

abbrev Dead : Taking → Type 0
Dead around = (f : Forest) → Stuck f → around f ≡ None

dead_level : (around : Taking) (l : Level) → Dead around → Dead (level around l)
dead_level around (Args follow) dead f stuck = ap (option_and_then (λ g. around (behind follow g))) stuck.1
dead_level around (Result None) dead f stuck = dead f stuck
dead_level around (Result (Some follow)) dead f stuck = ap around (stuck.0 follow) ∙ dead f stuck

dead_within : (around : Taking) (ls : List Level) → Dead around → Dead (within around ls)
dead_within around [] dead = dead
dead_within around (l ∷ ls) dead = dead_within (level around l) ls (dead_level around l dead)

stuck_at : (f x g : Forest) (o : Option Forest) → takes (single "::") f ≡ o → x ≡ unwrap_or o f → takes (single "<") x ≡ Some g → takes generics x ≡ None → Stuck f
stuck_at f x g None e i h none = at_angle f g (ap (takes (single "<")) (sym i) ∙ h)
stuck_at f x g (Some r) e i h none =
    at_colons f r e (ap (takes name) (sym i) ∙ no_name x g h) (ap (takes generics) (sym i) ∙ none)

open_args : (ls : List Level) (follow : Follow) (f x g : Forest) (o : Option Forest) → takes generics x ≡ o →
    x ≡ after (single "::") f → takes (single "<") x ≡ Some g →
    option_and_then (λ h. within (outside true) ls (behind follow h)) o ≡ within (outside true) ls (behind_args follow f o)
open_args ls follow f x g None none i h =
    sym (dead_within (outside true) ls (λ k stuck. stuck.1) f (stuck_at f x g (takes (single "::") f) refl i h none))
open_args ls follow f x g (Some k) some i h = refl

abbrev inner : Expression
inner = maybe (arg ⨾ many (single "," ⨾ arg) ⨾ maybe (single ",")) ⨾ single ">"

generics_on : (x g : Forest) → takes (single "<") x ≡ Some g → takes generics x ≡ takes inner g
unfolding generics
generics_on x g h = then_on (single "<") inner x g h

-- all within arguments: where those that begin are not complete, nothing is
pub enter : (ls : List Level) (follow : Follow) (f x g : Forest) → x ≡ after (single "::") f → takes (single "<") x ≡ Some g →
    option_and_then (λ h. within (outside true) ls (behind follow h)) (takes inner g) ≡ within (outside true) ls (left (Angle f follow))
enter ls follow f x g i h =
    ap (option_and_then (λ k. within (outside true) ls (behind follow k))) (sym (generics_on x g h))
    ∙ open_args ls follow f x g (takes generics x) refl i h
    ∙ ap (λ y. within (outside true) ls (behind_args follow f (takes generics y))) i

-- no arguments come
pub no_args : (follow : Follow) (f x : Forest) → x ≡ after (single "::") f → takes (single "<") x ≡ None → left (Angle f follow) ≡ f
no_args follow f x i h = ap (λ y. behind_args follow f (takes generics y)) (sym i) ∙ ap (behind_args follow f) (no_generics x h)

-- arguments are complete, or not
pub whole_args : (follow : Follow) (f x g : Forest) → x ≡ after (single "::") f → takes generics x ≡ Some g → left (Angle f follow) ≡ behind follow g
whole_args follow f x g i h = ap (λ y. behind_args follow f (takes generics y)) (sym i) ∙ ap (behind_args follow f) h

pub broken_args : (follow : Follow) (f x : Forest) → x ≡ after (single "::") f → takes generics x ≡ None → left (Angle f follow) ≡ f
broken_args follow f x i h = ap (λ y. behind_args follow f (takes generics y)) (sym i) ∙ ap (behind_args follow f) h

-- ---- paths and bounds

-- what the code has if an expression may be missing
pub or_copied : (e : Expression) (f d x : Forest) (o : Option Forest) → o ≡ takes e f → d ≡ f → x ≡ unwrap_or o d → x ≡ after e f
or_copied e f d x o i j k = rw (k, i, j) refl

abbrev more : Expression
more = many (single "+" ⨾ bound)

-- a path from its first name on
pub path_on : (x g : Forest) → takes (maybe (single "::") ⨾ name) x ≡ Some g → takes tpath x ≡ Some (left (Named g Segments))
unfolding tpath seg
path_on x g e = ap (λ o. option_and_then (takes segments) (option_and_then (takes (maybe (generics ∣ paren ⨾ arrow))) o)) e

pub path_none : (x : Forest) → takes (maybe (single "::") ⨾ name) x ≡ None → takes tpath x ≡ None
unfolding tpath seg
path_none x e = ap (λ o. option_and_then (takes segments) (option_and_then (takes (maybe (generics ∣ paren ⨾ arrow))) o)) e

pub bound_on : (f x g : Forest) → x ≡ after (single "?") f → takes (maybe (single "::") ⨾ name) x ≡ Some g →
    Some (left (Named g Bounds)) ≡ takes (maybe (single "?") ⨾ tpath ⨾ more) f
bound_on f x g i e = sym (ap (takes (tpath ⨾ more)) (sym i) ∙ ap (option_and_then (takes more)) (path_on x g e))

pub bound_none : (f x : Forest) → x ≡ after (single "?") f → takes (maybe (single "::") ⨾ name) x ≡ None →
    takes (maybe (single "?") ⨾ tpath ⨾ more) f ≡ None
bound_none f x i e = ap (takes (tpath ⨾ more)) (sym i) ∙ ap (option_and_then (takes more)) (path_none x e)

pub no_plus : (f : Forest) → takes (single "+") f ≡ None → f ≡ after more f
no_plus f e = sym (no_rounds (single "+" ⨾ bound) f (then_none (single "+") bound f e))

plus_round : (f g h : Forest) → takes (single "+") f ≡ Some g → takes bound g ≡ Some h → after more f ≡ after more h
plus_round f g h e d = after_round (single "+" ⨾ bound) (omega arith) f h (round_on (single "+") bound f g h e d)

by_lifetime : (g h : Forest) → takes lifetime g ≡ Some h → takes bound g ≡ Some h
unfolding bound
by_lifetime g h d = ap (λ o. otherwise o (takes (maybe (single "?") ⨾ tpath)) g) d

by_path : (g : Forest) → takes lifetime g ≡ None → takes bound g ≡ takes (maybe (single "?") ⨾ tpath) g
unfolding bound
by_path g d = skip lifetime (maybe (single "?") ⨾ tpath) g d

pub lifetime_round : (f g h : Forest) → takes (single "+") f ≡ Some g → takes lifetime g ≡ Some h → after more f ≡ after more h
lifetime_round f g h e d = plus_round f g h e (by_lifetime g h d)

pub path_round : (f g k : Forest) → takes (single "+") f ≡ Some g → takes lifetime g ≡ None → Some k ≡ takes (maybe (single "?") ⨾ tpath ⨾ more) g →
    k ≡ after more f
path_round f g k e d some =
    let parts = both (maybe (single "?") ⨾ tpath) more g k (sym (two_parts (maybe (single "?")) tpath more g) ∙ sym some) in
    sym (plus_round f g parts.0 e (by_path g d ∙ parts.1) ∙ after_some more parts.0 k parts.2)

total_none : (e : Expression) (o : Option Forest) → option_and_then (takes (many e)) o ≡ None → o ≡ None
total_none e None none = refl
total_none e (Some f) none = absurd cc

pub no_round : (f g : Forest) → takes (single "+") f ≡ Some g → takes lifetime g ≡ None → None ≡ takes (maybe (single "?") ⨾ tpath ⨾ more) g →
    f ≡ after more f
no_round f g e d none =
    let no_path = total_none (single "+" ⨾ bound) (takes (maybe (single "?") ⨾ tpath) g) (sym (two_parts (maybe (single "?")) tpath more g) ∙ sym none) in
    sym (no_rounds (single "+" ⨾ bound) f (then_on (single "+") bound f g e ∙ by_path g d ∙ no_path))

pub bounds_by_lifetime : (f g : Forest) → takes lifetime f ≡ Some g → takes (bound ⨾ more) f ≡ Some (after more g)
bounds_by_lifetime f g e = ap (option_and_then (takes more)) (by_lifetime f g e)

pub bounds_by_path : (f : Forest) → takes lifetime f ≡ None → takes (bound ⨾ more) f ≡ takes (maybe (single "?") ⨾ tpath ⨾ more) f
bounds_by_path f e = ap (option_and_then (takes more)) (by_path f e) ∙ sym (two_parts (maybe (single "?")) tpath more f)

-- ---- types and arguments

abbrev bounds : Expression
bounds = (word "dyn" ∣ word "impl") ⨾ bound ⨾ more

abbrev plain : Expression
plain = word "_" ∣ single "!" ∣ paren ∣ bracket

abbrev called : Expression
called = tpath ⨾ maybe (single "!" ⨾ any_group)

abbrev plain_or : Expression
plain_or = word "_" ∣ single "!" ∣ paren ∣ bracket ∣ called

otherwise_assoc : (o : Option Forest) (p q : Taking) (f : Forest) → otherwise o (λ g. otherwise (p g) q g) f ≡ otherwise (otherwise o p f) q f
otherwise_assoc None p q f = refl
otherwise_assoc (Some g) p q f = refl

or_assoc : (a b x : Expression) (f : Forest) → takes (a ∣ b ∣ x) f ≡ takes ((a ∣ b) ∣ x) f
or_assoc a b x f = otherwise_assoc (takes a f) (takes b) (takes x) f

three_or : (a b c x : Expression) (f : Forest) → takes (a ∣ b ∣ c ∣ x) f ≡ takes ((a ∣ b ∣ c) ∣ x) f
three_or a b c x f = or_same a (b ∣ c ∣ x) ((b ∣ c) ∣ x) f (or_assoc b c x f) ∙ or_assoc a (b ∣ c) x f

four_or : (a b c d x : Expression) (f : Forest) → takes (a ∣ b ∣ c ∣ d ∣ x) f ≡ takes ((a ∣ b ∣ c ∣ d) ∣ x) f
four_or a b c d x f = or_same a (b ∣ c ∣ d ∣ x) ((b ∣ c ∣ d) ∣ x) f (three_or b c d x f) ∙ or_assoc a (b ∣ c ∣ d) x f

pub by_function : (f g : Forest) → takes bounds f ≡ None → takes (word "fn" ⨾ paren) f ≡ Some g → takes bare_type f ≡ Some (after (single "->" ⨾ type) g)
unfolding arrow
by_function f g none e =
    skip bounds (word "fn" ⨾ paren ⨾ arrow ∣ plain_or) f none
    ∙ ap (λ o. otherwise o (takes plain_or) f) (two_parts (word "fn") paren arrow f ∙ then_on (word "fn" ⨾ paren) arrow f g e)

pub by_others : (f : Forest) → takes bounds f ≡ None → takes (word "fn" ⨾ paren) f ≡ None → takes plain f ≡ None → takes bare_type f ≡ takes called f
by_others f none no_function no_plain =
    skip bounds (word "fn" ⨾ paren ⨾ arrow ∣ plain_or) f none
    ∙ skip (word "fn" ⨾ paren ⨾ arrow) plain_or f (two_parts (word "fn") paren arrow f ∙ then_none (word "fn" ⨾ paren) arrow f no_function)
    ∙ four_or (word "_") (single "!") paren bracket called f
    ∙ skip plain called f no_plain

pub called_on : (f g : Forest) → takes (maybe (single "::") ⨾ name) f ≡ Some g → takes called f ≡ Some (left (Named g Call))
called_on f g e = ap (option_and_then (takes (maybe (single "!" ⨾ any_group)))) (path_on f g e)

pub called_none : (f : Forest) → takes (maybe (single "::") ⨾ name) f ≡ None → takes called f ≡ None
called_none f e = ap (option_and_then (takes (maybe (single "!" ⨾ any_group)))) (path_none f e)

abbrev plain_argument : Expression
plain_argument = lifetime ∣ maybe (single "-") ⨾ literal ∣ brace

abbrev binding : Expression
binding = name ⨾ single "=" ⨾ type

arg_is : (f : Forest) → takes arg f ≡ takes (plain_argument ∣ binding ∣ type) f
unfolding arg
arg_is f = three_or lifetime (maybe (single "-") ⨾ literal) brace (binding ∣ type) f

pub arg_plain : (f g : Forest) → takes plain_argument f ≡ Some g → takes arg f ≡ Some g
arg_plain f g e = arg_is f ∙ ap (λ o. otherwise o (takes (binding ∣ type)) f) e

pub arg_binding : (f g : Forest) → takes plain_argument f ≡ None → takes binding f ≡ Some g → takes arg f ≡ Some g
arg_binding f g none e = arg_is f ∙ skip plain_argument (binding ∣ type) f none ∙ ap (λ o. otherwise o (takes type) f) e

pub arg_type : (f : Forest) → takes plain_argument f ≡ None → takes binding f ≡ None → takes arg f ≡ takes type f
arg_type f none no_binding = arg_is f ∙ skip plain_argument (binding ∣ type) f none ∙ skip binding type f no_binding

-- ---- parameters and arguments

pub by_parameters : (f g : Forest) → takes (single "<") f ≡ None → takes paren f ≡ Some g → after (generics ∣ paren ⨾ arrow) f ≡ after (single "->" ⨾ type) g
unfolding arrow
by_parameters f g h e = ap (λ o. unwrap_or o f) (skip generics (paren ⨾ arrow) f (no_generics f h) ∙ then_on paren arrow f g e)

pub neither_args : (f : Forest) → takes (single "<") f ≡ None → takes paren f ≡ None → after (generics ∣ paren ⨾ arrow) f ≡ f
neither_args f h e = after_none (generics ∣ paren ⨾ arrow) f (skip generics (paren ⨾ arrow) f (no_generics f h) ∙ then_none paren arrow f e)

abbrev further_args : Expression
further_args = many (single "," ⨾ arg) ⨾ maybe (single ",")

args_behind : (f g : Forest) (o : Option Forest) → takes (single ",") f ≡ Some g → takes arg g ≡ o → takes (maybe (arg ⨾ further_args)) g ≡ takes further_args f
args_behind f g None e none =
    ap (λ p. Some (unwrap_or p g)) (then_none arg further_args g none)
    ∙ sym (then_on (many (single "," ⨾ arg)) (maybe (single ",")) f f (many_none (single "," ⨾ arg) f (then_on (single ",") arg f g e ∙ none))
    ∙ ap (λ p. Some (unwrap_or p f)) e)
args_behind f g (Some h) e some =
    sym (parts_begin arg (single "," ⨾ arg) (single ",") g h some)
    ∙ parts_on (single ",") arg (maybe (single ",")) f g h (omega arith) e some

pub comma : (f g : Forest) → takes (single ",") f ≡ Some g → takes inner g ≡ takes closing f
comma f g e = ap (option_and_then (takes (single ">"))) (args_behind f g (takes arg g) e refl)

-- ---- fewer tokens

pub begun_fewer : (o : Option Begun) (m n : ℕ) → m ≤ n → IfSome o (λ b. weight b ≤ m * 8) → IfSome o (λ b. weight b ≤ n * 8)
begun_fewer None m n less h = h
begun_fewer (Some b) m n less h = omega (arith, less, h)

pub next_fewer : (o : Option Next) (m n : ℕ) → m ≤ n → IfSome o (λ x. next_weight x ≤ m * 8) → IfSome o (λ x. next_weight x ≤ n * 8)
next_fewer None m n less h = h
next_fewer (Some x) m n less h = omega (arith, less, h)

-- ---- the steps of the levels

pub pushed : (around : Taking) (ls ms : List Level) (l : Level) (f : Forest) → ms ≡ ls ++ l ∷ [] → within around ms f ≡ level (within around ls) l f
pushed around ls ms l f i = ap (λ k. within around k f) i ∙ ap (λ k. k f) (within_push around ls l)

pub popped : (around : Taking) (ls ms : List Level) (o : Option Level) (l : Level) (f : Forest) → ls ≡ ms ++ option_to_list o → o ≡ Some l →
    level (within around ms) l f ≡ within around ls f
popped around ls ms o l f i e = sym (pushed around ms ls l f (i ∙ ap (λ p. ms ++ option_to_list p) e))

pub no_begun : (k : Begun → Option Forest) (o : Option Begun) → o ≡ None → option_and_then k o ≡ None
no_begun k o e = ap (option_and_then k) e

module _ (ls : List Level) (follow : Follow) (f x g : Forest) (i : x ≡ after (single "::") f) (h : takes (single "<") x ≡ Some g) where
  pub enter_fail : takes inner g ≡ None → None ≡ within (outside true) ls (left (Angle f follow))
  enter_fail none = sym (ap (option_and_then (λ k. within (outside true) ls (behind follow k))) none) ∙ enter ls follow f x g i h

  pub enter_part : (k : Forest) → takes closing k ≡ takes inner g → level (within (outside true) ls) (Args follow) k ≡ within (outside true) ls (left (Angle f follow))
  enter_part k e = ap (option_and_then (λ m. within (outside true) ls (behind follow m))) e ∙ enter ls follow f x g i h

  pub enter_end : (k : Forest) → takes inner g ≡ Some k → within (outside true) ls (behind follow k) ≡ within (outside true) ls (left (Angle f follow))
  enter_end k e = sym (ap (option_and_then (λ m. within (outside true) ls (behind follow m))) e) ∙ enter ls follow f x g i h

pub result_on : (f g h : Forest) → takes (single "->") f ≡ Some g → takes type g ≡ Some h → h ≡ after (single "->" ⨾ type) f
result_on f g h e d = sym (after_some (single "->" ⨾ type) f h (then_on (single "->") type f g e ∙ d))

-- arguments go on, or end, or break off
pub args_part : (around : Taking) (follow : Follow) (f g : Forest) → takes closing g ≡ takes closing f → level around (Args follow) g ≡ level around (Args follow) f
args_part around follow f g e = ap (option_and_then (λ k. around (behind follow k))) e

pub args_end : (around : Taking) (follow : Follow) (f g : Forest) → takes closing f ≡ Some g → around (behind follow g) ≡ level around (Args follow) f
args_end around follow f g e = sym (ap (option_and_then (λ k. around (behind follow k))) e)

pub args_fail : (around : Taking) (follow : Follow) (f : Forest) → takes closing f ≡ None → None ≡ level around (Args follow) f
args_fail around follow f e = sym (ap (option_and_then (λ k. around (behind follow k))) e)

-- what the next part of arguments is
pub part_is : (o : Option Next) (n : Next) (b : Begun) → o ≡ Some n → n ≡ Part b → gone (takes closing) o ≡ takes closing (left b)
part_is o n b e d = ap (gone (takes closing)) (e ∙ ap Some d)

pub end_is : (o : Option Next) (n : Next) (g : Forest) → o ≡ Some n → n ≡ End g → gone (takes closing) o ≡ Some g
end_is o n g e d = ap (gone (takes closing)) (e ∙ ap Some d)

pub part_weight : (o : Option Next) (n : Next) (b : Begun) (m : ℕ) → o ≡ Some n → n ≡ Part b → IfSome o (λ x. next_weight x ≤ m * 8) → weight b ≤ m * 8
part_weight o n b m e d h = subst (λ y. IfSome y (λ x. next_weight x ≤ m * 8)) (e ∙ ap Some d) h

pub end_weight : (o : Option Next) (n : Next) (g : Forest) (m : ℕ) → o ≡ Some n → n ≡ End g → IfSome o (λ x. next_weight x ≤ m * 8) → size g * 8 ≤ m * 8
end_weight o n g m e d h = subst (λ y. IfSome y (λ x. next_weight x ≤ m * 8)) (e ∙ ap Some d) h

pub size_weight : (b : Begun) → size_of b * 8 + 1 ≤ weight b
size_weight (Whole f) = omega arith
size_weight (Named f follow) = omega arith
size_weight (Angle f follow) = omega arith
size_weight (Arrow f follow) = omega arith
