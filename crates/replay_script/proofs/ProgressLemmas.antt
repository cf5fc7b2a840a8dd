-- A line's turn is an answer, by where the script stands, and leaves the script where the answer says.
use Rattle.std.proofs.Common.{◌≡◌, ℕ, ◌+◌, ◌-◌, ◌<◌, ◌≤◌, ◌^◌, length, length-append, length-drop, length-take-le, take, drop, List, [], ◌∷◌, ◌++◌, Option, Some, refl, ap, sym, subst, ◌∙◌, arith}
use Rattle.std.specs.Prelude.{Result, Ok, Err, if◌then◌else◌, nat_eq, option_and_then, option_map, string_bytes}
use Rattle.bridge.specs.declared.reading.outcome.ReadFault.{ReadFault}
use Rattle.tt_data.specs.Forest.{Forest}
use Rattle.tt_data.specs.declared.edition.Edition.{Edition}
use Rattle.expander_model.specs.Meaning.{Layers, ReadMeaning, meaning_in}
use Rattle.expander_model.specs.declared.dialect.Dialect.{Dialect}
use Rattle.expander_scope.specs.declared.refusal.Refusal.{Refusal}
use Rattle.expander_scope.specs.declared.refusal.Refusal.TheVariants.{Memory, Tokens, Numbers}
use Rattle.expander_session.specs.Answers.{CanEdit, text_after}
use Rattle.expander_session.specs.CommandTurns.{Turn}
use Rattle.expander_session.specs.Count.{Looked}
use Rattle.expander_session.specs.Replies.{HasCause, IsReplyIn, Replies, all_definitions, given_in, looked_in}
use Rattle.expander_session.specs.State.{State, definitions_of}
use Rattle.expander_session.specs.TooMany.{NeedsTooManyIn}
use Rattle.expander_session.specs.declared.commands.Answer.{Answer}
use Rattle.expander_session.specs.declared.commands.Answer.TheVariants.{Edited, BadEdit, Reply as Replied, Refused}
use Rattle.expander_session.specs.declared.commands.Command.{Command}
use Rattle.expander_session.specs.declared.commands.Command.TheVariants.{Edit, Expand}
use Rattle.expander_session.specs.declared.session.Reply.{Reply}
use Rattle.expander_session.specs.declared.session.Reply.TheVariants.{Read, Unread}
use Rattle.expander_sources.specs.Sources.{Source}
use Rattle.replay_script.specs.LineTurns.{IsAnswerable, IsShort, LineTurn}
use Rattle.replay_script.specs.Picks.{Picked, SourceTable, all_picked, picked_by, picked_of, prelude_of, with_source}
use Rattle.replay_script.specs.Progress.{IsCommandAnswer, IsLineAnswer, IsPreludeTold, Progress, after, after_command, after_picks, after_source, given_to, looked_last, source_read, trees_last}
use Rattle.replay_script.specs.Scripts.{indices_of}
use Rattle.replay_script.specs.SourceTables.{source_in}
use Rattle.replay_script.specs.declared.answer.LineAnswer.{LineAnswer}
use Rattle.replay_script.specs.declared.answer.LineAnswer.TheVariants as told
use Rattle.replay_script.specs.declared.line.Line.{Line}
use Rattle.replay_script.specs.declared.line.Line.TheVariants as asked
use Rattle.replay_script.specs.declared.line.Pick.{Pick}
use Rattle.replay_script.specs.declared.sources.Sources.{Sources}

-- ---- what a session remembers

-- grammar, edition, dialect and depth are these
pub record IsSet {G : Type 0} (s : State G) (grammar : G) (edition : Edition) (dialect : Dialect) (depth : ℕ) : Type 0 where
  pub grammar_is : s.grammar ≡ grammar
  pub edition_is : s.edition ≡ edition
  pub dialect_is : s.dialect ≡ dialect
  pub depth_is : s.depth ≡ depth

-- what a session remembers of where its script stands
pub record Remembers {G : Type 0} (layers : Layers) (depth : ℕ) (s : State G) (at : Progress) : Type 0 where
  pub text : s.text ≡ at.text
  pub prelude : s.prelude ≡ at.prelude
  pub held : s.held ≡ looked_last layers depth at.readings
  pub trees : s.trees ≡ trees_last layers depth at.readings
  pub given_is : s.given ≡ given_to layers depth at.readings

-- the sources that are kept are those of the script
abbrev pub Agree : Sources → SourceTable → Type 0
Agree kept sources = (n : ℕ) → source_in kept n ≡ sources n

-- what a turn leaves that reads no text
record Leaves {G : Type 0} (old new : State G) (text_now : List ℕ) (prelude_now : List Forest) : Type 0 where
  pub text : new.text ≡ text_now
  pub prelude : new.prelude ≡ prelude_now
  pub held : new.held ≡ old.held
  pub trees : new.trees ≡ old.trees
  pub given_is : new.given ≡ old.given
  pub is_set : IsSet new old.grammar old.edition old.dialect old.depth

leaves_text : {G : Type 0} → (old new : State G) (text : List ℕ) → new ≡ record old { text = text } → Leaves old new text old.prelude
leaves_text old new text e = record {
  text = ap (λ s. s.text) e;
  prelude = ap (λ s. s.prelude) e;
  held = ap (λ s. s.held) e;
  trees = ap (λ s. s.trees) e;
  given_is = ap (λ s. s.given) e;
  is_set = record { grammar_is = ap (λ s. s.grammar) e; edition_is = ap (λ s. s.edition) e; dialect_is = ap (λ s. s.dialect) e; depth_is = ap (λ s. s.depth) e };
}

leaves_prelude : {G : Type 0} → (old new : State G) (prelude : List Forest) → new ≡ record old { prelude = prelude } → Leaves old new old.text prelude
leaves_prelude old new prelude e = record {
  text = ap (λ s. s.text) e;
  prelude = ap (λ s. s.prelude) e;
  held = ap (λ s. s.held) e;
  trees = ap (λ s. s.trees) e;
  given_is = ap (λ s. s.given) e;
  is_set = record { grammar_is = ap (λ s. s.grammar) e; edition_is = ap (λ s. s.edition) e; dialect_is = ap (λ s. s.dialect) e; depth_is = ap (λ s. s.depth) e };
}

leaves_all : {G : Type 0} → (old new : State G) → new ≡ old → Leaves old new old.text old.prelude
leaves_all old new e = record {
  text = ap (λ s. s.text) e;
  prelude = ap (λ s. s.prelude) e;
  held = ap (λ s. s.held) e;
  trees = ap (λ s. s.trees) e;
  given_is = ap (λ s. s.given) e;
  is_set = record { grammar_is = ap (λ s. s.grammar) e; edition_is = ap (λ s. s.edition) e; dialect_is = ap (λ s. s.dialect) e; depth_is = ap (λ s. s.depth) e };
}

still : {G : Type 0} → (layers : Layers) (depth : ℕ) (old new : State G) (at next : Progress) (text : List ℕ) (prelude : List Forest) → Remembers layers depth old at
    → Leaves old new text prelude → text ≡ next.text → prelude ≡ next.prelude → next.readings ≡ at.readings → Remembers layers depth new next
still layers depth old new at next text prelude r l same_text same_prelude same = record {
  text = l.text ∙ same_text;
  prelude = l.prelude ∙ same_prelude;
  held = l.held ∙ r.held ∙ ap (looked_last layers depth) (sym same);
  trees = l.trees ∙ r.trees ∙ ap (trees_last layers depth) (sym same);
  given_is = l.given_is ∙ r.given_is ∙ ap (given_to layers depth) (sym same);
}

-- ---- commands

-- what a command's turn gives
pub record Goes {G : Type 0} (layers : Layers) (depth : ℕ) (old new : State G) (at : Progress) (command : Command) (answer : Answer) : Type 0 where
  pub answers : IsCommandAnswer layers depth at command answer
  pub remembers : Remembers layers depth new (after_command at command answer)
  pub is_set : IsSet new old.grammar old.edition old.dialect old.depth

given_same : (m n : ℕ) → m ≡ n → (a b : List Forest) → a ≡ b → (p q : List Forest) → p ≡ q → (r s : Result ReadMeaning ReadFault) → r ≡ s
    → given_in m a p r ≡ given_in n b q s
given_same m n e a b f p q g r s h =
    ap (λ (k : ℕ). given_in k a p r) e ∙ ap (λ (ts : List Forest). given_in n ts p r) f ∙ ap (λ (ts : List Forest). given_in n b ts r) g ∙ ap (given_in n b q) h

-- the text means the same
meaning_same : {G : Type 0} → (layers : Layers) (depth : ℕ) (s : State G) (at : Progress) → Remembers layers depth s at
    → meaning_in layers depth (definitions_of s.prelude) s.text ≡ meaning_in layers depth (definitions_of at.prelude) at.text
meaning_same layers depth s at r =
    ap (λ (ps : List Forest). meaning_in layers depth (definitions_of ps) s.text) r.prelude
    ∙ ap (λ (t : List ℕ). meaning_in layers depth (definitions_of at.prelude) t) r.text

reply_same : {G : Type 0} → (layers : Layers) (depth : ℕ) (s : State G) (at : Progress) → Remembers layers depth s at → (reply : Reply)
    → IsReplyIn layers depth (definitions_of s.prelude) s.text s.held reply
    → IsReplyIn layers depth (definitions_of at.prelude) at.text (looked_last layers depth at.readings) reply
reply_same layers depth s at r reply h =
    subst (λ (earlier : Option (List Looked)). IsReplyIn layers depth (definitions_of at.prelude) at.text earlier reply) r.held
    (subst (λ (t : List ℕ). IsReplyIn layers depth (definitions_of at.prelude) t s.held reply) r.text
    (subst (λ (ps : List Forest). IsReplyIn layers depth (definitions_of ps) s.text s.held reply) r.prelude h))

goes_reply : {G : Type 0} → (layers : Layers) (old new : State G) (at : Progress) → Remembers layers old.depth old at
    → (reply : Reply) → Replies layers old new reply → Goes layers old.depth old new at Expand (Replied reply)
goes_reply layers old new at r (Read e) h =
    let same = meaning_same layers old.depth old at r in
    record {
      answers = reply_same layers old.depth old at r (Read e) h.0;
      remembers = record {
        text = h.1.text ∙ r.text;
        prelude = h.1.prelude ∙ r.prelude;
        held = h.1.held ∙ ap (λ (m : Result ReadMeaning ReadFault). Some (looked_in m)) same;
        trees = h.1.trees
            ∙ ap (λ (ps : List Forest). all_definitions ps (meaning_in layers old.depth (definitions_of old.prelude) old.text)) r.prelude
            ∙ ap (all_definitions at.prelude) same;
        given_is = h.1.given
            ∙ given_same old.given (given_to layers old.depth at.readings) r.given_is old.trees (trees_last layers old.depth at.readings) r.trees old.prelude at.prelude
            r.prelude _ _ same;
      };
      is_set = record { grammar_is = h.1.grammar; edition_is = h.1.edition; dialect_is = h.1.dialect; depth_is = h.1.depth };
    }
goes_reply layers old new at r (Unread fault) h =
    let l = leaves_all old new h.1 in
    record {
      answers = reply_same layers old.depth old at r (Unread fault) h.0;
      remembers = still layers old.depth old new at (after_command at Expand (Replied (Unread fault))) old.text old.prelude r l r.text r.prelude refl;
      is_set = l.is_set;
    }

refused_is : {G : Type 0} → (layers : Layers) (old : State G) (at : Progress) → Remembers layers old.depth old at → (refusal : Refusal)
    → HasCause layers old refusal → IsCommandAnswer layers old.depth at Expand (Refused refusal)
refused_is layers old at r Memory h = tt
refused_is layers old at r Tokens h =
    subst (λ (t : List ℕ). NeedsTooManyIn layers old.depth (definitions_of at.prelude) t) r.text
    (subst (λ (ps : List Forest). NeedsTooManyIn layers old.depth (definitions_of ps) old.text) r.prelude h)
refused_is layers old at r Numbers h =
    subst (λ (n : ℕ). 2 ^ 32 ≤ n)
    (given_same old.given (given_to layers old.depth at.readings) r.given_is old.trees (trees_last layers old.depth at.readings) r.trees old.prelude at.prelude r.prelude
    _ _ (meaning_same layers old.depth old at r)) h

-- a turn that reads no text
goes_on : {G : Type 0} → (layers : Layers) (old new : State G) (at : Progress) (command : Command) (answer : Answer) (text : List ℕ) → Remembers layers old.depth old at
    → Leaves old new text old.prelude → IsCommandAnswer layers old.depth at command answer → text ≡ (after_command at command answer).text
    → (after_command at command answer).readings ≡ at.readings → Goes layers old.depth old new at command answer
goes_on layers old new at command answer text r l answers is same = record {
  answers = answers;
  remembers = still layers old.depth old new at (after_command at command answer) text old.prelude r l is r.prelude same;
  is_set = l.is_set;
}

pub goes : {G : Type 0} → (layers : Layers) (old new : State G) (at : Progress) (command : Command) (answer : Answer) → Remembers layers old.depth old at
    → Turn layers old new command answer → Goes layers old.depth old new at command answer
goes layers old new at (Edit start stop replacement) Edited r h =
    goes_on layers old new at (Edit start stop replacement) Edited (text_after old.text (Edit start stop replacement) Edited) r (leaves_text old new _ h.1)
    (subst (λ (t : List ℕ). CanEdit t start stop (string_bytes replacement)) r.text h.0)
    (ap (λ (t : List ℕ). text_after t (Edit start stop replacement) Edited) r.text) refl
goes layers old new at (Edit start stop replacement) BadEdit r h =
    goes_on layers old new at (Edit start stop replacement) BadEdit old.text r (leaves_all old new h.1)
    (subst (λ (t : List ℕ). CanEdit t start stop (string_bytes replacement) → ⊥) r.text h.0) r.text refl
goes layers old new at (Edit start stop replacement) (Refused Memory) r h =
    goes_on layers old new at (Edit start stop replacement) (Refused Memory) old.text r (leaves_all old new h.1)
    (subst (λ (t : List ℕ). CanEdit t start stop (string_bytes replacement)) r.text h.0) r.text refl
goes layers old new at (Edit start stop replacement) (Refused Tokens) r h = absurd h
goes layers old new at (Edit start stop replacement) (Refused Numbers) r h = absurd h
goes layers old new at (Edit start stop replacement) (Replied reply) r h = absurd h
goes layers old new at Expand (Replied reply) r h = goes_reply layers old new at r reply h
goes layers old new at Expand (Refused refusal) r h =
    goes_on layers old new at Expand (Refused refusal) old.text r (leaves_all old new h.1) (refused_is layers old at r refusal h.0) r.text refl
goes layers old new at Expand Edited r h = absurd h
goes layers old new at Expand BadEdit r h = absurd h

-- ---- sources and preludes

-- the same sources pick the same
picked_same : (f g : SourceTable) → ((n : ℕ) → f n ≡ g n) → (p : Pick) → picked_by f p ≡ picked_by g p
picked_same f g same p = ap (option_and_then (picked_of (indices_of p))) (same p.source)

all_picked_same : (f g : SourceTable) → ((n : ℕ) → f n ≡ g n) → (ps : List Pick) → all_picked f ps ≡ all_picked g ps
all_picked_same f g same [] = refl
all_picked_same f g same (p ∷ ps) =
    ap (λ (o : Option (List Picked)). option_and_then (λ (first : Picked). option_map (λ (more : List Picked). first ∷ more) o) (picked_by f p)) (all_picked_same f g same ps)
    ∙ ap (option_and_then (λ (first : Picked). option_map (λ (more : List Picked). first ∷ more) (all_picked g ps))) (picked_same f g same p)

-- one more source, in both
one_more_source : (kept : Sources) (sources : SourceTable) → Agree kept sources → (s : Source) (n : ℕ) → with_source s (source_in kept) n ≡ with_source s sources n
one_more_source kept sources agree s n = ap (λ (o : Option Source). if nat_eq s.number n then Some s else o) (agree n)

-- what a line's turn gives
pub record GoesOn {G : Type 0} (layers : Layers) (depth : ℕ) (old new : State G) (have : Sources) (at : Progress) (line : Line) (answer : LineAnswer) : Type 0 where
  pub answers : IsLineAnswer layers depth at line answer
  pub remembers : Remembers layers depth new (after at line answer)
  pub agree : Agree have (after at line answer).sources
  pub is_set : IsSet new old.grammar old.edition old.dialect old.depth

-- nothing but the sources changes
still_there : {G : Type 0} → (layers : Layers) (depth : ℕ) (old new : State G) (at : Progress) → Remembers layers depth old at → new ≡ old
    → (o : Result Source ReadFault) → Remembers layers depth new (after_source at o)
still_there layers depth old new at r same (Ok s) =
    still layers depth old new at (after_source at (Ok s)) old.text old.prelude r (leaves_all old new same) r.text r.prelude refl
still_there layers depth old new at r same (Err fault) =
    still layers depth old new at (after_source at (Err fault)) old.text old.prelude r (leaves_all old new same) r.text r.prelude refl

-- nothing changes
unchanged : {G : Type 0} → (layers : Layers) (depth : ℕ) (old new : State G) (at : Progress) → Remembers layers depth old at → new ≡ old → Remembers layers depth new at
unchanged layers depth old new at r same = still layers depth old new at at old.text old.prelude r (leaves_all old new same) r.text r.prelude refl

pub goes_line : {G : Type 0} → (layers : Layers) (old new : State G) (had have : Sources) (at : Progress) (line : Line) (answer : LineAnswer)
    → Remembers layers old.depth old at → Agree had at.sources → LineTurn layers old new had have line answer → GoesOn layers old.depth old new have at line answer
goes_line layers old new had have at (asked.Command c) (told.Command a) r agree h =
    let g = goes layers old new at c a r h.0 in
    record { answers = g.answers; remembers = g.remembers; agree = λ n. h.1 n ∙ agree n; is_set = g.is_set }
goes_line layers old new had have at (asked.Command c) (told.Source m k) r agree h = absurd h
goes_line layers old new had have at (asked.Command c) (told.Unread number source fault) r agree h = absurd h
goes_line layers old new had have at (asked.Command c) (told.Prelude count) r agree h = absurd h
goes_line layers old new had have at (asked.Command c) told.BadPrelude r agree h = absurd h
goes_line layers old new had have at (asked.Command c) (told.Refused refusal) r agree h = absurd h
goes_line layers old new had have at (asked.Source n home text) (told.Source m k) r agree h =
    let read = source_read n home (string_bytes text) in
    record {
      answers = h.1.is_answer;
      remembers = still_there layers old.depth old new at r h.0 read;
      agree = subst (λ (o : Result Source ReadFault). Agree have (after_source at o).sources) (sym h.1.kept.1)
          (λ i. h.1.kept.2 i ∙ one_more_source had at.sources agree h.1.kept.0 i);
      is_set = (leaves_all old new h.0).is_set;
    }
goes_line layers old new had have at (asked.Source n home text) (told.Unread number source fault) r agree h = record {
  answers = h.1.is_answer;
  remembers = unchanged layers old.depth old new at r h.0;
  agree = λ i. h.1.kept i ∙ agree i;
  is_set = (leaves_all old new h.0).is_set;
}
goes_line layers old new had have at (asked.Source n home text) (told.Refused refusal) r agree h = record {
  answers = h.1.is_answer;
  remembers = unchanged layers old.depth old new at r h.0;
  agree = λ i. h.1.kept i ∙ agree i;
  is_set = (leaves_all old new h.0).is_set;
}
goes_line layers old new had have at (asked.Source n home text) (told.Command a) r agree h = absurd h.1.is_answer
goes_line layers old new had have at (asked.Source n home text) (told.Prelude count) r agree h = absurd h.1.is_answer
goes_line layers old new had have at (asked.Source n home text) told.BadPrelude r agree h = absurd h.1.is_answer
goes_line layers old new had have at (asked.Prelude picks) (told.Prelude count) r agree h =
    let same = all_picked_same (source_in had) at.sources agree picks.items in
    let now : all_picked at.sources picks.items ≡ Some h.0.kept.0 = sym same ∙ h.0.kept.1 in
    let l = leaves_prelude old new (prelude_of h.0.kept.0) h.0.kept.2 in
    record {
      answers = subst (λ (o : Option (List Picked)). IsPreludeTold o count) same h.0.is_answer;
      remembers = subst (λ (o : Option (List Picked)). Remembers layers old.depth new (after_picks at o)) (sym now)
          (still layers old.depth old new at (after_picks at (Some h.0.kept.0)) old.text (prelude_of h.0.kept.0) r l r.text refl refl);
      agree = subst (λ (o : Option (List Picked)). Agree have (after_picks at o).sources) (sym now) (λ i. h.1 i ∙ agree i);
      is_set = l.is_set;
    }
goes_line layers old new had have at (asked.Prelude picks) told.BadPrelude r agree h = record {
  answers = sym (all_picked_same (source_in had) at.sources agree picks.items) ∙ h.0.is_answer;
  remembers = unchanged layers old.depth old new at r h.0.kept;
  agree = λ i. h.1 i ∙ agree i;
  is_set = (leaves_all old new h.0.kept).is_set;
}
goes_line layers old new had have at (asked.Prelude picks) (told.Refused Memory) r agree h = record {
  answers = tt;
  remembers = unchanged layers old.depth old new at r h.0.kept;
  agree = λ i. h.1 i ∙ agree i;
  is_set = (leaves_all old new h.0.kept).is_set;
}
goes_line layers old new had have at (asked.Prelude picks) (told.Refused Tokens) r agree h = record {
  answers = tt;
  remembers = unchanged layers old.depth old new at r h.0.kept;
  agree = λ i. h.1 i ∙ agree i;
  is_set = (leaves_all old new h.0.kept).is_set;
}
goes_line layers old new had have at (asked.Prelude picks) (told.Refused Numbers) r agree h = absurd h.0.is_answer
goes_line layers old new had have at (asked.Prelude picks) (told.Command a) r agree h = absurd h.0.is_answer
goes_line layers old new had have at (asked.Prelude picks) (told.Source m k) r agree h = absurd h.0.is_answer
goes_line layers old new had have at (asked.Prelude picks) (told.Unread number source fault) r agree h = absurd h.0.is_answer

-- what cannot be read as a source is short enough
pub short_turn : {G : Type 0} → (layers : Layers) (old new : State G) (had have : Sources) (line : Line) (answer : LineAnswer)
    → IsAnswerable line → LineTurn layers old new had have line answer → IsShort answer
short_turn layers old new had have line (told.Command a) can h = tt
short_turn layers old new had have line (told.Source m k) can h = tt
short_turn layers old new had have line (told.Prelude count) can h = tt
short_turn layers old new had have line told.BadPrelude can h = tt
short_turn layers old new had have line (told.Refused refusal) can h = tt
short_turn layers old new had have (asked.Command c) (told.Unread number source fault) can h = absurd h
short_turn layers old new had have (asked.Source n home text) (told.Unread number source fault) can h =
    subst (λ (bytes : List ℕ). length bytes < 2 ^ 32) (sym h.1.is_answer.1) can.1
short_turn layers old new had have (asked.Prelude picks) (told.Unread number source fault) can h = absurd h.0.is_answer

-- ---- texts that are short enough for places

-- an edit that fits leaves a text that is short enough
short_edit : (text : List ℕ) (start stop : ℕ) (replacement : List ℕ) → start ≤ stop → stop ≤ length text → length text - (stop - start) + length replacement < 2 ^ 32
    → length (take start text ++ (replacement ++ drop stop text)) < 2 ^ 32
short_edit text start stop replacement order within fits =
    let all = length-append (take start text) (replacement ++ drop stop text) in
    let rest = length-append replacement (drop stop text) in
    let front = length-take-le start text (omega (arith, order, within)) in
    let back = length-drop stop text in
    omega (arith, order, within, fits, all, rest, front, back)

-- the same text is
same_text : {G : Type 0} → (old new : State G) → length old.text < 2 ^ 32 → new.text ≡ old.text → length new.text < 2 ^ 32
same_text old new short same = subst (λ (t : List ℕ). length t < 2 ^ 32) (sym same) short

same_session : {G : Type 0} → (old new : State G) → length old.text < 2 ^ 32 → new ≡ old → length new.text < 2 ^ 32
same_session old new short same = same_text old new short (ap (λ s. s.text) same)

short_command : {G : Type 0} → (layers : Layers) (old new : State G) (command : Command) (answer : Answer) → length old.text < 2 ^ 32
    → Turn layers old new command answer → length new.text < 2 ^ 32
short_command layers old new (Edit start stop replacement) Edited short h =
    subst (λ (t : List ℕ). length t < 2 ^ 32) (sym (ap (λ s. s.text) h.1)) (short_edit old.text start stop (string_bytes replacement) h.0.order h.0.to.0 h.0.fits)
short_command layers old new (Edit start stop replacement) BadEdit short h = same_session old new short h.1
short_command layers old new (Edit start stop replacement) (Refused Memory) short h = same_session old new short h.1
short_command layers old new (Edit start stop replacement) (Refused Tokens) short h = absurd h
short_command layers old new (Edit start stop replacement) (Refused Numbers) short h = absurd h
short_command layers old new (Edit start stop replacement) (Replied reply) short h = absurd h
short_command layers old new Expand (Replied (Read e)) short h = same_text old new short h.1.text
short_command layers old new Expand (Replied (Unread fault)) short h = same_session old new short h.1
short_command layers old new Expand (Refused refusal) short h = same_session old new short h.1
short_command layers old new Expand Edited short h = absurd h
short_command layers old new Expand BadEdit short h = absurd h

-- after a line's turn the text is short enough if it was before
pub short_text : {G : Type 0} → (layers : Layers) (old new : State G) (had have : Sources) (line : Line) (answer : LineAnswer) → length old.text < 2 ^ 32
    → LineTurn layers old new had have line answer → length new.text < 2 ^ 32
short_text layers old new had have (asked.Command c) (told.Command a) short h = short_command layers old new c a short h.0
short_text layers old new had have (asked.Command c) (told.Source m k) short h = absurd h
short_text layers old new had have (asked.Command c) (told.Unread number source fault) short h = absurd h
short_text layers old new had have (asked.Command c) (told.Prelude count) short h = absurd h
short_text layers old new had have (asked.Command c) told.BadPrelude short h = absurd h
short_text layers old new had have (asked.Command c) (told.Refused refusal) short h = absurd h
short_text layers old new had have (asked.Source n home text) answer short h = same_session old new short h.0
short_text layers old new had have (asked.Prelude picks) (told.Prelude count) short h = same_text old new short (ap (λ s. s.text) h.0.kept.2)
short_text layers old new had have (asked.Prelude picks) (told.Command a) short h = same_session old new short h.0.kept
short_text layers old new had have (asked.Prelude picks) (told.Source m k) short h = same_session old new short h.0.kept
short_text layers old new had have (asked.Prelude picks) (told.Unread number source fault) short h = same_session old new short h.0.kept
short_text layers old new had have (asked.Prelude picks) told.BadPrelude short h = same_session old new short h.0.kept
short_text layers old new had have (asked.Prelude picks) (told.Refused refusal) short h = same_session old new short h.0.kept
