-- The names of lines, one more at a time.
use Rattle.std.proofs.Common.{◌≡◌, ◌++◌, false, List, [], ◌∷◌, append_assoc, append-nil, subst, sym}
use Rattle.std.specs.List.{list_any}
use Rattle.j39_names.specs.Naming.{is_of}
use Rattle.j39_names.specs.declared.naming.Named.{Named}
use Rattle.j39_table.specs.Names.{AreNew}

pub AreNew-push : (before names : List Named) (named : Named) → AreNew before names → list_any (is_of named.kind named.number) (before ++ names) ≡ false
    → AreNew before (names ++ (named ∷ []))
AreNew-push before [] named apart new = (subst (λ ns. list_any (is_of named.kind named.number) ns ≡ false) (append-nil before) new, tt)
AreNew-push before (n ∷ ns) named apart new = (
  apart.0,
  AreNew-push (before ++ (n ∷ [])) ns named apart.1
      (subst (λ all. list_any (is_of named.kind named.number) all ≡ false) (sym (append_assoc before (n ∷ []) ns)) new),
)
