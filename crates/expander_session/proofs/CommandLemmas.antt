-- A turn of a session is an answer, and answers one after another are those to all commands.
use Rattle.std.proofs.Common.{◌≡◌, ℕ, ◌<◌, ◌^◌, List, [], ◌∷◌, ◌++◌, Option, None, Some, refl, ap, sym, subst, ◌∙◌, append_assoc, append-nil, arith}
use Rattle.std.specs.Prelude.{Result}
use Rattle.bridge.specs.declared.reading.outcome.ReadFault.{ReadFault}
use Rattle.tt_data.specs.Forest.{Forest}
use Rattle.tt_data.specs.declared.edition.Edition.{Edition}
use Rattle.expander_model.specs.declared.dialect.Dialect.{Dialect}
use Rattle.mbe.specs.Grammar.{Grammar}
use Rattle.expander_session.specs.Answers.{AreAnswers, IsAnswer, given, last_looked, last_reads, last_trees, reads_after, text_after}
use Rattle.expander_session.specs.CommandTurns.{Turn}
use Rattle.expander_session.specs.Count.{Looked}
use Rattle.expander_session.specs.Layered.{layers}
use Rattle.expander_model.specs.Meaning.{Layers, ReadMeaning, meaning, meaning_in}
use Rattle.expander_session.specs.Replies.{HasCause, IsReplyIn, IsReplyTo, NeedsNumbers, NeedsNumbersIn, Replies, all_definitions, given_after, given_in, looked_in}
use Rattle.expander_session.specs.State.{State, definitions_of, layers_of}
use Rattle.expander_session.specs.TooMany.{NeedsTooManyIn}
use Rattle.expander_scope.specs.declared.refusal.Refusal.{Refusal}
use Rattle.expander_scope.specs.declared.refusal.Refusal.TheVariants.{Memory, Tokens, Numbers}
use Rattle.expander_session.specs.declared.session.Reply.{Reply}
use Rattle.expander_session.specs.declared.session.Reply.TheVariants.{Read, Unread}
use Rattle.expander_session.specs.declared.commands.Answer.{Answer}
use Rattle.expander_session.specs.declared.commands.Answer.TheVariants.{Edited, BadEdit, Reply as Replied, Refused}
use Rattle.expander_session.specs.declared.commands.Command.{Command}
use Rattle.expander_session.specs.declared.commands.Command.TheVariants.{Edit, Expand}

given_same : (m n : ℕ) → m ≡ n → (a b : List Forest) → a ≡ b → (r : Result ReadMeaning ReadFault) → given_after m a r ≡ given_after n b r
given_same m n e a b same r = ap (λ (k : ℕ). given_after k a r) e ∙ ap (λ (ts : List Forest). given_after n ts r) same

-- ---- one turn

-- what a session remembers of the texts that were read
pub record Remembers {G : Type 0} (layers : Layers) (depth : ℕ) (s : State G) (reads : List (List ℕ)) : Type 0 where
  pub prelude : s.prelude ≡ []
  pub held : s.held ≡ last_looked layers depth reads
  pub trees : s.trees ≡ last_trees layers depth reads
  pub given_is : s.given ≡ given layers depth reads

-- grammar, edition, dialect and depth are these
pub record IsSet {G : Type 0} (s : State G) (grammar : G) (edition : Edition) (dialect : Dialect) (depth : ℕ) : Type 0 where
  pub grammar_is : s.grammar ≡ grammar
  pub edition_is : s.edition ≡ edition
  pub dialect_is : s.dialect ≡ dialect
  pub depth_is : s.depth ≡ depth

-- what a turn gives for a run
pub record Goes {G : Type 0} (layers : Layers) (depth : ℕ) (old new : State G) (reads : List (List ℕ)) (command : Command) (answer : Answer) : Type 0 where
  pub answers : IsAnswer layers depth old.text reads command answer
  pub text : new.text ≡ text_after old.text command answer
  pub remembers : Remembers layers depth new (reads_after old.text reads answer)
  pub is_set : IsSet new old.grammar old.edition old.dialect old.depth

-- what a turn leaves that reads no text
pub record Leaves {G : Type 0} (old new : State G) (text_now : List ℕ) : Type 0 where
  pub text : new.text ≡ text_now
  pub prelude : new.prelude ≡ old.prelude
  pub held : new.held ≡ old.held
  pub trees : new.trees ≡ old.trees
  pub given_is : new.given ≡ old.given
  pub is_set : IsSet new old.grammar old.edition old.dialect old.depth

leaves : {G : Type 0} → (old new : State G) (text : List ℕ) → new ≡ record old { text = text } → Leaves old new text
leaves old new text e = record {
  text = ap (λ s. s.text) e;
  prelude = ap (λ s. s.prelude) e;
  held = ap (λ s. s.held) e;
  trees = ap (λ s. s.trees) e;
  given_is = ap (λ s. s.given) e;
  is_set = record {
    grammar_is = ap (λ s. s.grammar) e;
    edition_is = ap (λ s. s.edition) e;
    dialect_is = ap (λ s. s.dialect) e;
    depth_is = ap (λ s. s.depth) e;
  };
}

still : {G : Type 0} → (layers : Layers) (depth : ℕ) (old new : State G) (text : List ℕ) (reads : List (List ℕ)) → Remembers layers depth old reads
    → Leaves old new text → Remembers layers depth new reads
still layers depth old new text reads r l = record {
  prelude = l.prelude ∙ r.prelude;
  held = l.held ∙ r.held;
  trees = l.trees ∙ r.trees;
  given_is = l.given_is ∙ r.given_is;
}

goes_on : {G : Type 0} → (layers : Layers) (old new : State G) (reads : List (List ℕ)) (command : Command) (answer : Answer) → Remembers layers old.depth old reads
    → IsAnswer layers old.depth old.text reads command answer → (text : List ℕ) → new ≡ record old { text = text } → text ≡ text_after old.text command answer
    → reads ≡ reads_after old.text reads answer → Goes layers old.depth old new reads command answer
goes_on layers old new reads command answer r answers text e is same =
    let l = leaves old new text e in
    record {
      answers = answers;
      text = l.text ∙ is;
      remembers = subst (Remembers layers old.depth new) same (still layers old.depth old new text reads r l);
      is_set = l.is_set;
    }

-- what a session's text means after these pieces
abbrev meaning_after : {G : Type 0} → Layers → State G → List Forest → Result ReadMeaning ReadFault
meaning_after layers s ps = meaning_in layers s.depth (definitions_of ps) s.text

-- without a prelude a reply is to the text by itself
replied_alone : {G : Type 0} → (layers : Layers) (old : State G) (reads : List (List ℕ)) → Remembers layers old.depth old reads → (reply : Reply)
    → IsReplyIn layers old.depth (definitions_of old.prelude) old.text old.held reply
    → IsReplyTo layers old.depth old.text (last_looked layers old.depth reads) reply
replied_alone layers old reads r reply h =
    subst (λ (ps : List Forest). IsReplyIn layers old.depth (definitions_of ps) old.text (last_looked layers old.depth reads) reply) r.prelude
    (subst (λ (earlier : Option (List Looked)). IsReplyIn layers old.depth (definitions_of old.prelude) old.text earlier reply) r.held h)

goes_reply : {G : Type 0} → (layers : Layers) (old new : State G) (reads : List (List ℕ)) → Remembers layers old.depth old reads
    → (reply : Reply) → Replies layers old new reply → Goes layers old.depth old new reads Expand (Replied reply)
goes_reply layers old new reads r (Read e) h = record {
  answers = replied_alone layers old reads r (Read e) h.0;
  text = h.1.text;
  remembers = record {
    prelude = h.1.prelude ∙ r.prelude;
    held = h.1.held ∙ ap (λ (ps : List Forest). Some (looked_in (meaning_after layers old ps))) r.prelude;
    trees = h.1.trees ∙ ap (λ (ps : List Forest). all_definitions ps (meaning_after layers old ps)) r.prelude;
    given_is = h.1.given
        ∙ ap (λ (ps : List Forest). given_in old.given old.trees ps (meaning_after layers old ps)) r.prelude
        ∙ given_same old.given (given layers old.depth reads) r.given_is old.trees (last_trees layers old.depth reads) r.trees (meaning layers old.depth old.text);
  };
  is_set = record { grammar_is = h.1.grammar; edition_is = h.1.edition; dialect_is = h.1.dialect; depth_is = h.1.depth };
}
goes_reply layers old new reads r (Unread fault) h =
    goes_on layers old new reads Expand (Replied (Unread fault)) r
    (replied_alone layers old reads r (Unread fault) h.0) old.text h.1 refl refl

refused_is : {G : Type 0} → (layers : Layers) (old : State G) (reads : List (List ℕ)) → Remembers layers old.depth old reads → (refusal : Refusal)
    → HasCause layers old refusal → IsAnswer layers old.depth old.text reads Expand (Refused refusal)
refused_is layers old reads r Memory h = tt
refused_is layers old reads r Tokens h =
    subst (λ (ps : List Forest). NeedsTooManyIn layers old.depth (definitions_of ps) old.text) r.prelude h
refused_is layers old reads r Numbers h =
    let m : Result ReadMeaning ReadFault = meaning layers old.depth old.text in
    let alone : NeedsNumbers old.given old.trees m =
    subst (λ (ps : List Forest). NeedsNumbersIn old.given old.trees ps (meaning_after layers old ps)) r.prelude h in
    rw (sym (given_same old.given (given layers old.depth reads) r.given_is old.trees (last_trees layers old.depth reads) r.trees m)) alone

pub goes : {G : Type 0} → (layers : Layers) (old new : State G) (reads : List (List ℕ)) (command : Command) (answer : Answer) → Remembers layers old.depth old reads
    → Turn layers old new command answer → Goes layers old.depth old new reads command answer
goes layers old new reads (Edit start stop replacement) Edited r h = goes_on layers old new reads (Edit start stop replacement) Edited r h.0 _ h.1 refl refl
goes layers old new reads (Edit start stop replacement) BadEdit r h = goes_on layers old new reads (Edit start stop replacement) BadEdit r h.0 old.text h.1 refl refl
goes layers old new reads (Edit start stop replacement) (Refused Memory) r h =
    goes_on layers old new reads (Edit start stop replacement) (Refused Memory) r h.0 old.text h.1 refl refl
goes layers old new reads (Edit start stop replacement) (Refused Tokens) r h = absurd h
goes layers old new reads (Edit start stop replacement) (Refused Numbers) r h = absurd h
goes layers old new reads (Edit start stop replacement) (Replied reply) r h = absurd h
goes layers old new reads Expand (Replied reply) r h = goes_reply layers old new reads r reply h
goes layers old new reads Expand (Refused refusal) r h =
    goes_on layers old new reads Expand (Refused refusal) r (refused_is layers old reads r refusal h.0) old.text h.1 refl refl
goes layers old new reads Expand Edited r h = absurd h
goes layers old new reads Expand BadEdit r h = absurd h

-- ---- turns one after another

-- the layers of a session are those of its grammar, edition and dialect
layers_are : {G : Type 0} → (answer : G → Grammar) (s : State G) (grammar : G) (edition : Edition) (dialect : Dialect) (depth : ℕ) → IsSet s grammar edition dialect depth
    → layers_of answer s ≡ layers (answer grammar) edition dialect
layers_are answer s grammar edition dialect depth is =
    ap (λ (g : _). layers (answer g) s.edition s.dialect) is.grammar_is
    ∙ ap (λ (e : Edition). layers (answer grammar) e s.dialect) is.edition_is
    ∙ ap (λ (d : Dialect). layers (answer grammar) edition d) is.dialect_is

-- a turn, for the layers and the depth that a session was made with
goes_set : {G : Type 0} → (answer_of : G → Grammar) (old new : State G) (grammar : G) (edition : Edition) (dialect : Dialect) (depth : ℕ) (reads : List (List ℕ)) (command : Command) (answer : Answer)
    → IsSet old grammar edition dialect depth → Remembers (layers (answer_of grammar) edition dialect) depth old reads → Turn (layers_of answer_of old) old new command answer
    → Goes (layers (answer_of grammar) edition dialect) depth old new reads command answer
goes_set answer_of old new grammar edition dialect depth reads command answer is r turn =
    let L : Layers = layers (answer_of grammar) edition dialect in
    subst (λ (n : ℕ). Goes L n old new reads command answer) is.depth_is
    (goes L old new reads command answer
    (subst (λ (n : ℕ). Remembers L n old reads) (sym is.depth_is) r)
    (subst (λ (l : Layers). Turn l old new command answer) (layers_are answer_of old grammar edition dialect depth is) turn))

-- whatever answers the commands that are left makes the answers so far those of all
pub record Running {G : Type 0} (layers : Layers) (depth : ℕ) (text : List ℕ) (commands : List Command) (s : State G) (rest : List Command) (answers : List Answer) : Type 0 where
  pub reads : List (List ℕ)
  pub remembers : Remembers layers depth s reads
  pub more : (later : List Answer) → AreAnswers layers depth s.text reads rest later → AreAnswers layers depth text [] commands (answers ++ later)
  pub reads_are : (later : List Answer) → last_reads text [] commands (answers ++ later) ≡ last_reads s.text reads rest later

-- where a run stands: the session is set as it was, and its answers are on the way
pub record Stands {G : Type 0} (answer_of : G → Grammar) (s : State G) (text : List ℕ) (grammar : G) (edition : Edition) (dialect : Dialect) (depth : ℕ)
    (commands rest : List Command) (answers : List Answer) : Type 0 where
  pub is_set : IsSet s grammar edition dialect depth
  pub few : s.given < 2 ^ 32
  pub run : Running (layers (answer_of grammar) edition dialect) depth text commands s rest answers

pub occurs_first : {G : Type 0} → (answer_of : G → Grammar) (s : State G) (text : List ℕ) (grammar : G) (edition : Edition) (dialect : Dialect) (depth : ℕ)
    (commands rest : List Command) (answers : List Answer)
    → s ≡ record { text = text; grammar = grammar; edition = edition; dialect = dialect; depth = depth; prelude = []; held = None; trees = []; given = 0 } → rest ≡ commands → answers ≡ []
    → Stands answer_of s text grammar edition dialect depth commands rest answers
occurs_first answer_of s text grammar edition dialect depth commands rest answers is all none =
    let L : Layers = layers (answer_of grammar) edition dialect in
    record {
      is_set = record {
        grammar_is = ap (λ s. s.grammar) is;
        edition_is = ap (λ s. s.edition) is;
        dialect_is = ap (λ s. s.dialect) is;
        depth_is = ap (λ s. s.depth) is;
      };
      few = omega (arith, ap (λ s. s.given) is);
      run = record {
        reads = [];
        remembers = record {
          prelude = ap (λ s. s.prelude) is;
          held = ap (λ s. s.held) is;
          trees = ap (λ s. s.trees) is;
          given_is = ap (λ s. s.given) is;
        };
        more = λ later h. subst (λ (xs : List Answer). AreAnswers L depth text [] commands (xs ++ later)) (sym none)
            (subst (λ (cs : List Command). AreAnswers L depth text [] cs later) all
            (subst (λ (t : List ℕ). AreAnswers L depth t [] rest later) (ap (λ s. s.text) is) h));
        reads_are = λ later. ap (λ (xs : List Answer). last_reads text [] commands (xs ++ later)) none
            ∙ ap (λ (cs : List Command). last_reads text [] cs later) (sym all)
            ∙ ap (λ (t : List ℕ). last_reads t [] rest later) (sym (ap (λ s. s.text) is));
      };
    }

pub stands_next : {G : Type 0} → (answer_of : G → Grammar) (old new : State G) (text : List ℕ) (grammar : G) (edition : Edition) (dialect : Dialect) (depth : ℕ)
    (commands rest after : List Command) (command : Command) (answer : Answer) (answers answers' : List Answer)
    → rest ≡ command ∷ after → answers' ≡ answers ++ answer ∷ [] → Turn (layers_of answer_of old) old new command answer → (old.given < 2 ^ 32 → new.given < 2 ^ 32)
    → Stands answer_of old text grammar edition dialect depth commands rest answers → Stands answer_of new text grammar edition dialect depth commands after answers'
stands_next answer_of old new text grammar edition dialect depth commands rest after command answer answers answers' first pushed turn few st =
    let is : IsSet old grammar edition dialect depth = st.is_set in
    let reads : List (List ℕ) = st.run.reads in
    let L : Layers = layers (answer_of grammar) edition dialect in
    let g : Goes L depth old new reads command answer = goes_set answer_of old new grammar edition dialect depth reads command answer is st.run.remembers turn in
    let next : List (List ℕ) = reads_after old.text reads answer in
    record {
      is_set = record {
        grammar_is = g.is_set.grammar_is ∙ is.grammar_is;
        edition_is = g.is_set.edition_is ∙ is.edition_is;
        dialect_is = g.is_set.dialect_is ∙ is.dialect_is;
        depth_is = g.is_set.depth_is ∙ is.depth_is;
      };
      few = few st.few;
      run = record {
        reads = next;
        remembers = g.remembers;
        more = λ later h.
            let here : AreAnswers L depth old.text reads rest (answer ∷ later) =
            subst (λ (cs : List Command). AreAnswers L depth old.text reads cs (answer ∷ later)) (sym first)
            (g.answers, subst (λ (t : List ℕ). AreAnswers L depth t next after later) g.text h) in
            let joined : answers ++ (answer ∷ later) ≡ answers' ++ later = sym (ap (λ (xs : List Answer). xs ++ later) pushed ∙ append_assoc answers (answer ∷ []) later) in
            subst (λ (xs : List Answer). AreAnswers L depth text [] commands xs) joined (st.run.more (answer ∷ later) here);
        reads_are = λ later. ap (λ (xs : List Answer). last_reads text [] commands xs)
            (ap (λ (xs : List Answer). xs ++ later) pushed ∙ append_assoc answers (answer ∷ []) later)
            ∙ st.run.reads_are (answer ∷ later)
            ∙ ap (λ (cs : List Command). last_reads old.text reads cs (answer ∷ later)) first
            ∙ ap (λ (t : List ℕ). last_reads t next after later) (sym g.text);
      };
    }

pub stands_last : {G : Type 0} → (answer_of : G → Grammar) (s : State G) (text : List ℕ) (grammar : G) (edition : Edition) (dialect : Dialect) (depth : ℕ)
    (commands rest : List Command) (answers : List Answer)
    → rest ≡ [] → Stands answer_of s text grammar edition dialect depth commands rest answers → AreAnswers (layers (answer_of grammar) edition dialect) depth text [] commands answers
stands_last answer_of s text grammar edition dialect depth commands rest answers none st =
    let L : Layers = layers (answer_of grammar) edition dialect in
    subst (λ (xs : List Answer). AreAnswers L depth text [] commands xs) (append-nil answers)
    (st.run.more [] (subst (λ (cs : List Command). AreAnswers L depth s.text st.run.reads cs []) (sym none) tt))

pub stands_few : {G : Type 0} → (answer_of : G → Grammar) (s : State G) (text : List ℕ) (grammar : G) (edition : Edition) (dialect : Dialect) (depth : ℕ)
    (commands rest : List Command) (answers : List Answer)
    → rest ≡ [] → Stands answer_of s text grammar edition dialect depth commands rest answers
    → given (layers (answer_of grammar) edition dialect) depth (last_reads text [] commands answers) < 2 ^ 32
stands_few answer_of s text grammar edition dialect depth commands rest answers none st =
    let L : Layers = layers (answer_of grammar) edition dialect in
    let reads_are : last_reads text [] commands answers ≡ st.run.reads =
    ap (λ (xs : List Answer). last_reads text [] commands xs) (sym (append-nil answers))
    ∙ st.run.reads_are []
    ∙ ap (λ (cs : List Command). last_reads s.text st.run.reads cs []) none in
    let same : given L depth (last_reads text [] commands answers) ≡ s.given = ap (given L depth) reads_are ∙ sym st.run.remembers.given_is in
    subst (λ (n : ℕ). n < 2 ^ 32) (sym same) st.few
