-- A node on a bus as an account.
use Rattle.std.proofs.Common.{◌≡◌, ◌<◌, ℕ, Bool, true, false, List, [], ◌∷◌, ◌++◌, Option, None, Some, length, refl, sym, ap, ◌∙◌, subst, arith, append-nil, append_assoc, length-append}
use Rattle.std.specs.Io.KnownBytes.{Appends}
use Rattle.std.specs.Option.{option_map, option_to_list}
use Rattle.j39_io.specs.Device.{AppendsFront}
use Rattle.j39_io.proofs.DeviceLemmas.{front_first}
use Rattle.j39_frame.specs.Frame.{FrameRecord}
use Rattle.j39_groups.specs.Table.{the_table}
use Rattle.j39_address.specs.Call.{Call}
use Rattle.j39_address.specs.Claimer.{IsNode, Steps}
use Rattle.j39_address.specs.Command.{Command, command_by}
use Rattle.j39_address.specs.Claim.{claim_frame}
use Rattle.j39_address.specs.Node.{Node}
use Rattle.j39_address.specs.declared.claimer.Claimer.{Claimer}
use Rattle.j39_listen.proofs.AnswerLemmas.{answered_first, answered_more, answered_unique, called-append, sent_text-append, sent_text-none}
use Rattle.j39_groups.specs.Readings.{is_reported_in}
use Rattle.j39_listen.proofs.Causal.{heard_more}
use Rattle.j39_listen.proofs.LineLemmas.{capped-fits, capped-sum}
use Rattle.j39_listen.proofs.ReportAccount.{same_made}
use Rattle.j39_listen.specs.AccountCalls.{Begins, MakesOne, Meets, Stops}
use Rattle.j39_listen.specs.AnswersSoFar.{Calls, HasAnswered, Notices, Obeys, all_sent, hears, is_empty, starts}
use Rattle.j39_listen.specs.Answers.{AnsweredBelow, calls_at, calls_with, commands, sent_by, sent_text}
use Rattle.j39_listen.specs.Heard.{Hearing, or_none}
use Rattle.j39_listen.specs.Listening.{Hears}
use Rattle.j39_listen.specs.Output.{MakesAnswers, Output, answers_of, nothing}
use Rattle.j39_listen.specs.ReportSoFar.{made_of, made_sum}
use Rattle.j39_listen.specs.declared.answers.Answers.{Answers}
use Rattle.j39_listen.specs.declared.answers.Noticed.{Noticed}
use Rattle.j39_listen.specs.declared.answers.Sent.{Sent}
use Rattle.j39_listen.specs.declared.counts.Made.{Made}

-- ---- the lines of all frames that are sent at one

module _ (bus : List ℕ) (sent : Sent) where
  abbrev first : List ℕ
  first = sent_text bus (option_to_list sent.started)

  abbrev second : List ℕ
  second = sent_text bus (option_to_list sent.answered)

  abbrev third : List ℕ
  third = sent_text bus (option_to_list sent.obeyed)

  pub three_texts : sent_text bus (all_sent sent) ≡ first ++ (second ++ third)
  three_texts =
      sent_text-append bus (option_to_list sent.started) (option_to_list sent.answered ++ option_to_list sent.obeyed)
      ∙ ap (λ t. first ++ t) (sent_text-append bus (option_to_list sent.answered) (option_to_list sent.obeyed))

-- ---- one call after the other

-- the frame of an answer
at_most : (now name : ℕ) (answer : Option ℕ) (frame : Option FrameRecord) → frame ≡ option_map (claim_frame now name) answer → option_to_list frame ≡ sent_by now name answer
at_most now name None frame is = ap option_to_list is
at_most now name (Some a) frame is = ap option_to_list is

pub obeys_one : (old new : Claimer) (call : Call) (now : ℕ) (frame : Option FrameRecord) → Steps old call now frame new → Obeys old (call ∷ []) now (option_to_list frame) new
obeys_one old new call now frame steps = λ node is.
    let s = steps node is in
    record {
      after = s.after;
      called = (s.answer, s.after, [], s.step, (refl, refl), at_most now node.name s.answer frame s.frame_is ∙ sym (append-nil (sent_by now node.name s.answer)));
      is_node = s.is_node;
    }

pub obeys-append : (a b c : Claimer) (first later : List Call) (now : ℕ) (xs ys : List FrameRecord) → Obeys a first now xs b → Obeys b later now ys c
    → Obeys a (first ++ later) now (xs ++ ys) c
obeys-append a b c first later now xs ys f l = λ node is.
    let x = f node is in
    let y = l x.after x.is_node in
    record { after = y.after; called = called-append node x.after y.after first later now xs ys x.called y.called; is_node = y.is_node }

-- ---- the node with no frames

pub none_answered : (start : Node) (bus : List ℕ) (a : Answers) → IsNode a.claimer start → Hears a.listener [] → a.is_idle ≡ true → a.made ≡ (record { messages = 0; lines = 0 })
    → HasAnswered start bus a [] nothing
none_answered start bus a is_node hears idle none = record {
  heard = [];
  are_heard = refl;
  sent = [];
  node = start;
  answered = (refl, refl);
  output_is = ap (λ (t : List ℕ). record { text = t; messages = 0; lines = 0 }) (sym (sent_text-none bus));
  hears = hears;
  is_node = is_node;
  is_idle = idle;
  made_is = none;
}

-- ---- one frame more

calls_are : (F : List FrameRecord) (f : FrameRecord) (command : Option Command) → starts (is_empty F) ++ calls_with f command ≡ calls_at (length F) f command
calls_are [] f command = refl
calls_are (g ∷ F) f command = refl

made_of-append : (bus : List ℕ) (hs ks : List Hearing) (xs ys : List FrameRecord)
    → made_of (answers_of bus (hs ++ ks) (xs ++ ys)) ≡ made_sum (made_of (answers_of bus hs xs)) (made_of (answers_of bus ks ys))
made_of-append bus hs ks xs ys =
    same_made (made_of (answers_of bus (hs ++ ks) (xs ++ ys))) (made_sum (made_of (answers_of bus hs xs)) (made_of (answers_of bus ks ys)))
    (capped-sum _ _ _ (length-append hs ks)) (capped-sum _ _ _ (length-append xs ys))

is_empty-push : (F : List FrameRecord) (f : FrameRecord) → false ≡ is_empty (F ++ f ∷ [])
is_empty-push [] f = refl
is_empty-push (g ∷ F) f = refl

heard_few : (o : Option Hearing) → length (or_none o) < 2
heard_few None = omega arith
heard_few (Some h) = omega arith

sent_few : (sent : Sent) → length (all_sent sent) < 4
sent_few sent =
    let a = at_most_few sent.started in let b = at_most_few sent.answered in let c = at_most_few sent.obeyed in
    omega (arith, length-append (option_to_list sent.started) (option_to_list sent.answered ++ option_to_list sent.obeyed), length-append (option_to_list sent.answered) (option_to_list sent.obeyed))
  where
    at_most_few : (o : Option FrameRecord) → length (option_to_list o) < 2
    at_most_few None = omega arith
    at_most_few (Some f) = omega arith

-- behind what it hears it may be commanded
pub obeys_all : (a b c : Claimer) (is_idle : Bool) (f : FrameRecord) (command : Option Command) (sent : Sent) (now : ℕ) → now ≡ f.stamp
    → Obeys a (starts is_idle ++ hears f) f.stamp (option_to_list sent.started ++ option_to_list sent.answered) b → Obeys b (commands command) now (option_to_list sent.obeyed) c
    → Obeys a (starts is_idle ++ calls_with f command) f.stamp (all_sent sent) c
obeys_all a b c is_idle f command sent now at first last =
    let both = obeys-append a b c (starts is_idle ++ hears f) (commands command) f.stamp (option_to_list sent.started ++ option_to_list sent.answered) (option_to_list sent.obeyed)
    first (subst (λ (t : ℕ). Obeys b (commands command) t (option_to_list sent.obeyed) c) at last) in
    subst (λ (calls : List Call). Obeys a calls f.stamp (all_sent sent) c) (append_assoc (starts is_idle) (hears f) (commands command))
    (subst (λ (frames : List FrameRecord). Obeys a ((starts is_idle ++ hears f) ++ commands command) f.stamp frames c)
    (append_assoc (option_to_list sent.started) (option_to_list sent.answered) (option_to_list sent.obeyed)) both)

-- what the node is called with, behind the frames that it was given
called_here : (start : Node) (bus : List ℕ) (a : Answers) (f : FrameRecord) (noticed : Noticed) (sent : Sent) (claimer' : Claimer) (F : List FrameRecord) (before : Output)
    → Obeys a.claimer (starts a.is_idle ++ calls_with f (option_map command_by noticed.command)) f.stamp (all_sent sent) claimer' → (has : HasAnswered start bus a F before)
    → Calls has.node (calls_at (length F) f (option_map command_by noticed.command)) f.stamp (all_sent sent) claimer'
called_here start bus a f noticed sent claimer' F before obeys has =
    let command = option_map command_by noticed.command in
    let calls = ap (λ (b : Bool). starts b ++ calls_with f command) has.is_idle ∙ calls_are F f command in
    subst (λ (cs : List Call). Calls has.node cs f.stamp (all_sent sent) claimer') calls (obeys has.node has.is_node)

pub answers_meet : (a a' : Answers) (bus : List ℕ) (f : FrameRecord) (noticed : Noticed) (sent : Sent) (lines : ℕ) (old new : Option (List ℕ))
    → ((F : List FrameRecord) → Hears a.listener F → Notices F f noticed) → ((F : List FrameRecord) → Hears a.listener F → Hears a'.listener (F ++ f ∷ []))
    → Obeys a.claimer (starts a.is_idle ++ calls_with f (option_map command_by noticed.command)) f.stamp (all_sent sent) a'.claimer
    → a'.is_idle ≡ false → lines ≡ length (all_sent sent) → a'.made ≡ made_sum a.made (record { messages = noticed.messages; lines = lines })
    → Appends old new (sent_text bus (all_sent sent)) → (start : Node) → Meets (HasAnswered start bus) a a' (f ∷ []) old new
answers_meet a a' bus f noticed sent lines old new notices hears obeys begun count made written start = λ F before has.
    let n = notices F has.hears in
    let c = called_here start bus a f noticed sent a'.claimer F before obeys has in
    let heard = has.heard ++ or_none n.heard in
    let all = has.sent ++ all_sent sent in
    let few_heard = heard_few n.heard in
    let few_sent = sent_few sent in
    let here : (record { messages = noticed.messages; lines = lines }) ≡ made_of (answers_of bus (or_none n.heard) (all_sent sent)) =
    same_made _ _ (n.messages_are ∙ sym (capped-fits (length (or_none n.heard)) (omega arith))) (count ∙ sym (capped-fits (length (all_sent sent)) (omega arith))) in
    record {
      after = answers_of bus heard all;
      met = record {
        heard = heard;
        are_heard = heard_more (is_reported_in the_table) F f has.heard n.heard has.are_heard n.heard_at;
        sent = all;
        node = c.after;
        answered = answered_more start has.node c.after F f has.sent (all_sent sent) _ has.answered n.commanded c.called;
        output_is = refl;
        hears = hears F has.hears;
        is_node = c.is_node;
        is_idle = begun ∙ is_empty-push F f;
        made_is = made ∙ ap (λ (x : Made). made_sum x (record { messages = noticed.messages; lines = lines })) (has.made_is ∙ ap made_of has.output_is)
            ∙ ap (made_sum (made_of (answers_of bus has.heard has.sent))) here ∙ sym (made_of-append bus has.heard (or_none n.heard) has.sent (all_sent sent));
      };
      more = sent_text bus (all_sent sent);
      text_is = sent_text-append bus has.sent (all_sent sent) ∙ ap (λ t. t ++ sent_text bus (all_sent sent)) (sym (ap (λ (o : Output). o.text) has.output_is));
      written = written;
    }

-- ---- what is sent with the first frames comes first

texts : (start : Node) (bus : List ℕ) (F G : List FrameRecord) (first : List FrameRecord) (mid : Node) (all : Output) → AnsweredBelow start F (length F) first mid
    → MakesAnswers start bus (F ++ G) all → (rest : List FrameRecord) × (all.text ≡ sent_text bus first ++ sent_text bus rest)
texts start bus F G first mid all part (heard, sent, are_heard, (after, whole), is) =
    let split = answered_first start F G sent first after mid whole part in
    (split.0, ap (λ (o : Output). o.text) is ∙ ap (sent_text bus) split.1 ∙ sent_text-append bus first split.0)

pub answers_begin : (start : Node) → Begins (HasAnswered start) (MakesAnswers start)
answers_begin start = λ bus a F G before all has made.
    let t = texts start bus F G has.sent has.node all has.answered made in
    (sent_text bus t.0, t.1 ∙ ap (λ x. x ++ sent_text bus t.0) (sym (ap (λ (o : Output). o.text) has.output_is)))

-- all that is made of the frames is made as they are met
pub answered_makes : (start : Node) (bus : List ℕ) (a : Answers) (F : List FrameRecord) (output : Output) → HasAnswered start bus a F output → MakesAnswers start bus F output
answered_makes start bus a F output has = (has.heard, has.sent, has.are_heard, (has.node, has.answered), has.output_is)

pub answers_one : (start : Node) → MakesOne (MakesAnswers start)
answers_one start = λ bus F x y (hs, xs, heard_x, (m, are_x), is_x) (ks, ys, heard_y, (n, are_y), is_y).
    ap (λ (o : Output). o.text) is_x ∙ ap (sent_text bus) (answered_unique start F (length F) xs ys m n are_x are_y).0 ∙ sym (ap (λ (o : Output). o.text) is_y)

-- a fault of the writer at a frame
pub answers_stop : (a : Answers) (claimer' : Claimer) (bus : List ℕ) (f : FrameRecord) (noticed : Noticed) (sent : Sent) (old new : Option (List ℕ))
    → ((F : List FrameRecord) → Hears a.listener F → Notices F f noticed)
    → Obeys a.claimer (starts a.is_idle ++ calls_with f (option_map command_by noticed.command)) f.stamp (all_sent sent) claimer'
    → AppendsFront old new (sent_text bus (all_sent sent)) → (start : Node) → Stops (HasAnswered start bus) (MakesAnswers start bus) a (f ∷ []) old new
answers_stop a claimer' bus f noticed sent old new notices obeys front start = λ F G before all has made.
    let n = notices F has.hears in
    let c = called_here start bus a f noticed sent claimer' F before obeys has in
    let more = all_sent sent in
    let first = answered_more start has.node c.after F f has.sent more _ has.answered n.commanded c.called in
    let t = texts start bus (F ++ f ∷ []) G (has.sent ++ more) c.after all first made in
    let is : all.text ≡ before.text ++ (sent_text bus more ++ sent_text bus t.0) =
    t.1 ∙ ap (λ x. x ++ sent_text bus t.0) (sent_text-append bus has.sent more) ∙ append_assoc (sent_text bus has.sent) (sent_text bus more) (sent_text bus t.0)
    ∙ ap (λ x. x ++ (sent_text bus more ++ sent_text bus t.0)) (sym (ap (λ (o : Output). o.text) has.output_is)) in
    record {
      rest = sent_text bus more ++ sent_text bus t.0;
      all_is = is;
      front = front_first old new (sent_text bus more) (sent_text bus t.0) _ refl front;
    }
