-- The order of the FILEs is told, and the task performed.
use Rattle.std.proofs.Common.{◌≡◌, [], refl, ◌+◌, ◌∙◌, ◌∷◌, List, None, ℕ, suc, ap, arith, inl, length, map, sym}
use Rattle.std.proofs.lemmas.List.{length-map}
use Rattle.std.specs.Borrow.{Bor}
use Rattle.j39_cli.specs.FileEnds.{Ends, ends_record}
use Rattle.j39_cli.specs.declared.file_ends.FileEnds.{FileEnds}
use Rattle.j39_cli.specs.LogCommand.{inputs_of}
use Rattle.j1939.proofs.OpenedLemmas.{unknown, unknown_length}
use Rattle.j1939.proofs.over.Goals as goal

next : (n : ℕ) → suc n ≡ n + 1
next n = omega arith

named : (seen : List FileEnds) → map (λ (e : Ends). e.file) (map ends_record seen) ≡ map (λ ends. ends.file.now) seen
named [] = refl
named (e ∷ seen) = ap (λ names. e.file.now ∷ names) (named seen)

pub returns-in-Ok-clause-done : goal.returns-in-Ok-clause-done
returns-in-Ok-clause-done g c = inl (record {
  ends = map ends_record c.in-Ok.logs.seen.items;
  of_each = named c.in-Ok.logs.seen.items ∙ c.in-Ok.ensures.names ∙ c.files.ensures;
  seen = c.in-Ok.ensures.seen;
  between = record { bytes = g.E.Sink.written c.tell_files.new.err; has_failed = g.E.Sink.has_failed c.tell_files.new.err };
  told = rw c.as_slice.ensures.value at c.tell_files.ensures.told;
  held = None ∷ unknown c.in-Ok.logs.later.items;
  each = ap suc (unknown_length c.in-Ok.logs.later.items) ∙ next (length c.in-Ok.logs.later.items) ∙ c.in-Ok.ensures.ok
      ∙ ap (λ (files : List (List ℕ)). length (inputs_of files)) c.files.ensures;
  log = _;
  joined = c.new-log.ensures.joined;
  sound = c.new-log.ensures.unmarked;
  performed = c.perform_with.ensures.performed;
})
