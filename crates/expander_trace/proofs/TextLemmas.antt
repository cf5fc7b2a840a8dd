-- The traces of a text, piece by piece.
use Rattle.std.proofs.Common.{◌≡◌, ◌-◌, ◌∙◌, ℕ, List, [], ◌∷◌, ◌++◌, append_assoc, append-nil, Bool, true, false, cond, refl, sym, ap, map, if◌then◌else◌}
use Rattle.std.specs.Prelude.{◌&&◌, ◌||◌, Option, Some, None, is_some, not, option_map, nat_eq, nat_lt}
use Rattle.std.specs.Rc.{rc_value}
use Rattle.mbe.specs.Grammar.{Grammar}
use Rattle.tt_data.specs.Forest.{Forest}
use Rattle.tt_data.specs.declared.edition.Edition.{Edition}
use Rattle.expander_model.specs.Definitions.{Definition, definition_of}
use Rattle.expander_model.specs.Held.{Numbered, nearest_met, numbered_of, numbered_scope, unnumbered}
use Rattle.expander_model.specs.Meaning.{with_definition}
use Rattle.expander_model.specs.Scoping.{found_in, is_found}
use Rattle.expander_model.specs.declared.dialect.Dialect.{Dialect}
use Rattle.expander_model.specs.declared.scope_rules.ScopeRules.{ScopeRules}
use Rattle.expander_model.proofs.DefinitionPlaceLemmas.{definition_with-same}
use Rattle.expander_scope.specs.ScopeTable.{scope_in}
use Rattle.expander_scope.specs.declared.scope.Scope as table
use Rattle.call_expansion.specs.InScope.{HasInScope, met_alone}
use Rattle.expander_model.proofs.DefinitionPlaceLemmas.{definition_piece}
use Rattle.expander_scope.specs.MacroDefs.{definition_in as in_tree}
use Rattle.expander_trace.specs.Given.{attempt_in, attempt_with, given_in, step_in, step_with, trace_in}
use Rattle.expander_trace.specs.Numbered.{attempt_numbered, step_numbered}
use Rattle.expander_trace.specs.Parts.{Part, attempt_defines, cost_of, cut_off, may_define, part_of, part_within, room_behind, with_step}
use Rattle.expander_trace.specs.Passing.{Adds, numbered_by, steps_under}
use Rattle.expander_trace.specs.Steps.{Attempt, Rewrites, Step, rewrites, steps_of}
use Rattle.expander_trace.specs.Texts.{is_around, is_empty, is_last, is_spent, is_listed, member_part, plain_part, by_trees, listed, traces_after, untraced}
use Rattle.expander_trace.specs.declared.limits.Cut.{Cut}
use Rattle.expander_trace.specs.declared.limits.Cut.TheVariants as cuts
use Rattle.expander_trace.specs.declared.limits.Limits.{Limits}
use Rattle.expander_trace.specs.declared.limits.Room.{Room}
use Rattle.expander_trace.specs.declared.step.Attempt as code_attempt
use Rattle.expander_trace.specs.declared.step.Step as code
use Rattle.expander_trace.specs.declared.step.Trace.{Trace}
use Rattle.expander_trace.proofs.NamedLemmas.{Agrees, same_steps}

-- ---- parts with other definitions

module _ {D E : Type 0} (h : D → E) (rules : ScopeRules) where
  abbrev renamed_part : Part D → Part E
  renamed_part p = record { steps = map (step_with h) p.steps; room = p.room }

  same_cost : (o : Option (Attempt D)) → cost_of (option_map (attempt_with h) o) ≡ cost_of o
  same_cost None = refl
  same_cost (Some a) = refl

  same_defines : (o : Option (Attempt D)) → attempt_defines rules (option_map (attempt_with h) o) ≡ attempt_defines rules o
  same_defines None = refl
  same_defines (Some a) = refl

  same_room : (left : Limits) (s : Step D) → room_behind rules left (step_with h s) ≡ room_behind rules left s
  same_room left s = λ i. record {
    left = record { steps = left.steps - 1; tokens = left.tokens - same_cost s.attempt i };
    cut = if same_defines s.attempt i then Some cuts.Definitions else None;
  }

  -- the part that begins with a step
  first_same : (left : Limits) (s : Step D) (x y : Bool) (p : Part D)
      → (if x then cut_off left cuts.Steps else if y then cut_off left cuts.Tokens else with_step (step_with h s) (renamed_part p))
      ≡ renamed_part (if x then cut_off left cuts.Steps else if y then cut_off left cuts.Tokens else with_step s p)
  first_same left s true y p = refl
  first_same left s false true p = refl
  first_same left s false false p = refl

  pub part_same : (left : Limits) (c : Option Cut) (steps : List (Step D)) → part_within rules left c (map (step_with h) steps) ≡ renamed_part (part_within rules left c steps)
  part_same left (Some why) steps = refl
  part_same left None [] = refl
  part_same left None (s ∷ steps) =
      let r : Room = room_behind rules left s in
      let t : Step E = step_with h s in
      let shape : Bool → Part E → Part E = λ y more. if nat_eq left.steps 0 then cut_off left cuts.Steps else if y then cut_off left cuts.Tokens else with_step t more in
      let more : Room → Part E = λ x. part_within rules x.left x.cut (map (step_with h) steps) in
      ap (λ n. shape (nat_lt left.tokens n) (more (room_behind rules left t))) (same_cost s.attempt)
      ∙ ap (λ x. shape (nat_lt left.tokens (cost_of s.attempt)) (more x)) (same_room left s)
      ∙ ap (shape (nat_lt left.tokens (cost_of s.attempt))) (part_same r.left r.cut steps)
      ∙ first_same left s (nat_eq left.steps 0) (nat_lt left.tokens (cost_of s.attempt)) (part_within rules r.left r.cut steps)

-- ---- definitions without ids

-- a name finds the same definition
alone_found : (dialect : Dialect) (ds : List Definition) (name : List ℕ) → numbered_scope dialect (map met_alone ds) name ≡ option_map unnumbered (found_in dialect ds name)
alone_found dialect [] name = refl
alone_found dialect (d ∷ ds) name = go (is_found dialect d name) (alone_found dialect ds name)
  where
    go : (b : Bool) → option_map numbered_of (nearest_met dialect (map met_alone ds) name) ≡ option_map unnumbered (found_in dialect ds name)
        → option_map numbered_of (cond b (Some (met_alone d)) (nearest_met dialect (map met_alone ds) name)) ≡ option_map unnumbered (cond b (Some d) (found_in dialect ds name))
    go true e = refl
    go false e = e

-- the trees of a definition
abbrev piece_of : Definition → Forest
piece_of d = d.piece

-- those of one with an id
abbrev numbered_piece : Numbered → Forest
numbered_piece d = d.definition.piece

option_back : (o : Option (Attempt Definition)) → option_map (attempt_with numbered_piece) (option_map (attempt_with unnumbered) o) ≡ option_map (attempt_with piece_of) o
option_back None = refl
option_back (Some a) = refl

steps_back : (steps : List (Step Definition)) → map (step_with numbered_piece) (map (step_with unnumbered) steps) ≡ map (step_with piece_of) steps
steps_back [] = refl
steps_back (s ∷ steps) = λ i. record { level = s.level; name = s.name; key = s.key; attempt = option_back s.attempt i } ∷ steps_back steps i

-- the piece of a definition is the tree that it is read from
piece_is : (f : Forest) → (in_tree f).piece ≡ f
piece_is f = go (definition_of f) refl
  where
    go : (o : Option Definition) → definition_of f ≡ o → (in_tree f).piece ≡ f
    go None e = rw e refl
    go (Some d) e = rw e (definition_piece f d e)

attempt_by_trees : (o : Option code_attempt.Attempt) → option_map attempt_in o ≡ option_map (attempt_with numbered_piece) (option_map attempt_numbered o)
attempt_by_trees None = refl
attempt_by_trees (Some a) = λ i. Some (record { definition = sym (piece_is (rc_value a.known).tree.inner) i; call = a.call.inner; tokens = a.tokens; given = given_in a.given })

steps_by_trees : (t : List code.Step) → map step_in t ≡ map (step_with numbered_piece) (map step_numbered t)
steps_by_trees [] = refl
steps_by_trees (s ∷ t) = λ i. record { level = s.level; name = s.name; key = s.key; attempt = attempt_by_trees s.attempt i } ∷ steps_by_trees t i

-- what is listed of parts does not look at definitions
empty_same : {X Y : Type 0} (f : X → Y) (xs : List X) → is_empty (map f xs) ≡ is_empty xs
empty_same f [] = refl
empty_same f (x ∷ xs) = refl

is_listed_same : (p : Part Definition) → is_listed (by_trees p) ≡ is_listed p
is_listed_same p = ap (λ b. not b || is_some p.room.cut) (empty_same (step_with piece_of) p.steps)

last_same : (at : Option ℕ) (p : Part Definition) → is_last at (by_trees p) ≡ is_last at p
last_same at p = ap (λ b. (is_some at && b) || is_spent p.room.cut) (is_listed_same p)

listed_same : (p : Part Definition) (more : List (Part Definition)) → listed (by_trees p) (map by_trees more) ≡ map by_trees (listed p more)
listed_same p more = ap (λ b. if b then by_trees p ∷ map by_trees more else map by_trees more) (is_listed_same p) ∙ go (is_listed p)
  where
    go : (b : Bool) → (if b then by_trees p ∷ map by_trees more else map by_trees more) ≡ map by_trees (if b then p ∷ more else more)
    go true = refl
    go false = refl

-- ---- a piece

module _ (grammar : Grammar) (edition : Edition) (dialect : Dialect) (depth : ℕ) (at : Option ℕ) where
  abbrev by : Rewrites Definition
  by = rewrites grammar edition

  module _ (left : Limits) (before : List Definition) (piece : Forest) where
    -- a definition
    pub of_definition : (o : Option Definition) (t : Trace) → is_some o ≡ true → t.steps.items ≡ [] → t.room ≡ record { left = left; cut = None } → trace_in t ≡ by_trees (member_part by dialect depth at left before piece o)
    of_definition None t e none room = cc
    of_definition (Some d) t e none room = λ i. record { steps = map step_in (none i); room = room i }

    plain_is : (o : Option Definition) → is_some o ≡ false → member_part by dialect depth at left before piece o ≡ plain_part by dialect depth at left before piece
    plain_is None e = refl
    plain_is (Some d) e = cc

    over : (b : Bool) → ◌≡◌ {A = Part Forest} (record { steps = []; room = record { left = left; cut = if b then Some cuts.Definitions else None } }) (by_trees (if b then cut_off left cuts.Definitions else untraced left))
    over true = refl
    over false = refl

    -- one that may have definitions
    pub of_lists : (o : Option Definition) (t : Trace) → is_some o ≡ false → may_define dialect.scope piece ≡ true → t.steps.items ≡ [] → t.room.left ≡ left
        → t.room.cut ≡ (if is_around at piece then Some cuts.Definitions else None) → trace_in t ≡ by_trees (member_part by dialect depth at left before piece o)
    of_lists o t e may none room c =
        (λ i. record { steps = map step_in (none i); room = record { left = room i; cut = c i } })
        ∙ over (is_around at piece)
        ∙ ap (λ b. by_trees (if b then (if is_around at piece then cut_off left cuts.Definitions else untraced left)
        else part_within dialect.scope left None (steps_of by (found_in dialect before) depth 0 at piece))) (sym may)
        ∙ ap by_trees (sym (plain_is o e))

    -- another
    pub of_plain : (s : table.Scope) (o : Option Definition) (old t : Trace) → s.edition ≡ edition → HasInScope dialect s before → is_some o ≡ false → may_define dialect.scope piece ≡ false
        → old.steps.items ≡ [] → old.room ≡ record { left = left; cut = None } → Adds dialect.scope old t (steps_under grammar s depth 0 at piece)
        → trace_in t ≡ by_trees (member_part by dialect depth at left before piece o)
    of_plain s o old t same has e may none room adds =
        let agrees : Agrees unnumbered by (numbered_by by) (found_in dialect before) (scope_in s) = record {
          broken = λ d. ap by.broken (definition_with-same d);
          fit = λ d a. ap (λ x. by.fit x a) (definition_with-same d);
          put_out = λ d a. ap (λ x. by.put_out x a) (definition_with-same d);
          finds = λ key. ap (λ scope. scope key) has.finds ∙ alone_found dialect before key;
        } in
        let plain : List (Step Definition) = steps_of by (found_in dialect before) depth 0 at piece in
        let p : Part Definition = part_within dialect.scope left None plain in
        let steps : steps_under grammar s depth 0 at piece ≡ map (step_with unnumbered) plain =
        ap (λ x. steps_of (numbered_by (rewrites grammar x)) (scope_in s) depth 0 at piece) same ∙ same_steps unnumbered by (numbered_by by) (found_in dialect before) (scope_in s) agrees depth 0 at piece in
        let part : part_of dialect.scope old.room (steps_under grammar s depth 0 at piece) ≡ renamed_part unnumbered dialect.scope p =
        ap (λ r. part_of dialect.scope r (steps_under grammar s depth 0 at piece)) room ∙ ap (part_within dialect.scope left None) steps ∙ part_same unnumbered dialect.scope left None plain in
        let items : map step_in t.steps.items ≡ map (step_with piece_of) p.steps =
        steps_by_trees t.steps.items ∙ ap (map (step_with numbered_piece)) (adds.steps_are ∙ ap (λ xs. map step_numbered xs ++ (part_of dialect.scope old.room (steps_under grammar s depth 0 at piece)).steps) none
        ∙ ap (λ (q : Part Numbered). q.steps) part) ∙ steps_back p.steps in
        let end : t.room ≡ p.room = adds.room_is ∙ ap (λ (q : Part Numbered). q.room) part in
        (λ i. record { steps = items i; room = end i })
        ∙ ap (λ b. by_trees (if b then (if is_around at piece then cut_off left cuts.Definitions else untraced left) else p)) (sym may)
        ∙ ap by_trees (sym (plain_is o e))

  -- ---- the pieces that are left

  abbrev all_traces : Limits → List Definition → List Forest → List (Part Definition)
  all_traces left before ps = traces_after by dialect depth at left before ps

  -- a piece that ends the traces, or does not
  module _ (left : Limits) (before : List Definition) (p : Forest) (ps : List Forest) (t : Trace)
      (is : trace_in t ≡ by_trees (member_part by dialect depth at left before p (definition_of p))) where
    abbrev own : Part Definition
    own = member_part by dialect depth at left before p (definition_of p)

    abbrev rest_of : Limits → List (Part Definition)
    rest_of l = all_traces l (with_definition (definition_of p) before) ps

    is_last_one : (b : Bool) → is_last at (trace_in t) ≡ b → is_last at own ≡ b
    is_last_one b e = sym (last_same at own) ∙ sym (ap (is_last at) is) ∙ e

    pub traces_last : is_last at (trace_in t) ≡ true → listed (trace_in t) [] ≡ map by_trees (all_traces left before (p ∷ ps))
    traces_last e =
        ap (λ q. listed q []) is ∙ listed_same own []
        ∙ ap (λ b. map by_trees (listed own (if b then [] else rest_of own.room.left))) (sym (is_last_one true e))

    pub traces_more : is_last at (trace_in t) ≡ false → listed (trace_in t) (map by_trees (rest_of t.room.left)) ≡ map by_trees (all_traces left before (p ∷ ps))
    traces_more e =
        ap (λ (q : Part Forest). listed q (map by_trees (rest_of q.room.left))) is ∙ listed_same own (rest_of own.room.left)
        ∙ ap (λ b. map by_trees (listed own (if b then [] else rest_of own.room.left))) (sym (is_last_one false e))

  -- one more piece, behind which others are traced
  pub trace_goes : (left : Limits) (now : List Definition) (p : Forest) (olds_left news_left : List Forest) (t : Trace) (olds news all : List (Part Forest)) → olds_left ≡ p ∷ news_left
      → trace_in t ≡ by_trees (member_part by dialect depth at left now p (definition_of p)) → ((more : List (Part Forest)) → news ++ more ≡ olds ++ listed (trace_in t) more)
      → is_last at (trace_in t) ≡ false → olds ++ map by_trees (all_traces left now olds_left) ≡ all
      → news ++ map by_trees (all_traces t.room.left (with_definition (definition_of p) now) news_left) ≡ all
  trace_goes left now p olds_left news_left t olds news all first is adds more e =
      adds (map by_trees (all_traces t.room.left (with_definition (definition_of p) now) news_left)) ∙ ap (λ xs. olds ++ xs) (traces_more left now p news_left t is more)
      ∙ ap (λ ps. olds ++ map by_trees (all_traces left now ps)) (sym first) ∙ e

  -- the last that is traced
  pub trace_ends : (left : Limits) (now : List Definition) (p : Forest) (olds_left news_left : List Forest) (t : Trace) (olds news all : List (Part Forest)) → olds_left ≡ p ∷ news_left
      → trace_in t ≡ by_trees (member_part by dialect depth at left now p (definition_of p)) → ((more : List (Part Forest)) → news ++ more ≡ olds ++ listed (trace_in t) more)
      → is_last at (trace_in t) ≡ true → olds ++ map by_trees (all_traces left now olds_left) ≡ all → news ≡ all
  trace_ends left now p olds_left news_left t olds news all first is adds last e =
      sym (append-nil news) ∙ adds [] ∙ ap (λ xs. olds ++ xs) (traces_last left now p news_left t is last)
      ∙ ap (λ ps. olds ++ map by_trees (all_traces left now ps)) (sym first) ∙ e

  -- no piece is left
  pub trace_done : (left : Limits) (now : List Definition) (rest : List Forest) (olds all : List (Part Forest)) → rest ≡ [] → olds ++ map by_trees (all_traces left now rest) ≡ all → olds ≡ all
  trace_done left now rest olds all none e = sym (append-nil olds) ∙ ap (λ ps. olds ++ map by_trees (all_traces left now ps)) (sym none) ∙ e

-- ---- what is listed

pub listed_is : (b : Bool) (traces more : List (Part Forest)) (p : Part Forest) → b ≡ true → (traces ++ p ∷ []) ++ more ≡ traces ++ (if b then p ∷ more else more)
listed_is true traces more p e = append_assoc traces (p ∷ []) more
listed_is false traces more p e = cc

pub unlisted_is : (b : Bool) (traces more : List (Part Forest)) (p : Part Forest) → b ≡ false → traces ++ more ≡ traces ++ (if b then p ∷ more else more)
unlisted_is false traces more p e = refl
unlisted_is true traces more p e = cc
