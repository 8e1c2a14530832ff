-- One call more in a run. Assumes nothing.
use Rattle.std.proofs.Common.{◌≡◌, ℕ, ◌+◌, ◌<◌, List, [], ◌∷◌, ◌++◌, length, get_or, take, set, sym, refl, ap, ◌∙◌, subst}
use Rattle.std.proofs.lemmas.List.{map-append, take_more, take_more_set}
use Rattle.tallies.specs.Kinds.{Kind}
use Rattle.rules.specs.Rules.{Meaning}
use Rattle.book.specs.Answers.{Answer}
use Rattle.book.specs.Books.{Call, answers, after_all}
use Rattle.table.specs.declared.request.Request.{Request}
use Rattle.table.specs.declared.table.Table.{Table}
use Rattle.table.specs.Tables.{Keeps, Did}
use Rattle.table.specs.Requests.{asked}
use Rattle.replay.specs.Runs.{Step, Ran, calls, told, last_table}
use Rattle.replay.specs.Replayed.{all_asked, Replayed}
use Rattle.replay.proofs.Accounts.{run_by_book, ends}

module _ {V : Type 0} (k : Kind V) (rule : Meaning) where
  ran_more : (t : Table V) (ss : List (Step V)) (s : Step V) → Ran k rule t ss → Did k rule (last_table t ss) s.call s.answer s.table → Ran k rule t (ss ++ s ∷ [])
  ran_more t [] s ran did = (did, tt)
  ran_more t (q ∷ ss) s (here, ran) did = (here, ran_more q.table ss s ran did)

  last_more : (t : Table V) (ss : List (Step V)) (s : Step V) → last_table t (ss ++ s ∷ []) ≡ s.table
  last_more t [] s = refl
  last_more t (q ∷ ss) s = last_more q.table ss s

  -- a run, as one of calls and answers that are equal to its own
  replayed_as : (t u : Table V) (ss : List (Step V)) (cs : List (Call V)) (said : List (Answer V)) → Ran k rule t ss → calls ss ≡ cs → told ss ≡ said → last_table t ss ≡ u → Replayed k rule t cs said u
  replayed_as t u ss cs said ran made answered left = record {
    steps = ss;
    ran = ran;
    made = made;
    answered = answered;
    left = left;
    by_the_book = λ b keeps. (
      sym answered ∙ run_by_book k rule t b keeps ss ran ∙ ap (answers k rule b) made,
      subst (λ x. Keeps k x (after_all k rule b cs)) left (subst (λ ds. Keeps k (last_table t ss) (after_all k rule b ds)) made (ends k rule t b keeps ss ran)),
    );
  }

  pub replayed_none : (t : Table V) → Replayed k rule t [] [] t
  replayed_none t = replayed_as t t [] [] [] tt refl refl refl

  -- the turn of a loop that makes the call at i
  pub replayed_more :
      (t u v : Table V) (lent : ℕ) (i : ℕ) (rs : List (Request V)) (r : Request V) (xs ys : List (Answer V)) (a : Answer V) → i < length rs → r ≡ get_or rs i r → i < length xs → ys ≡ set xs i a →
      Replayed k rule t (all_asked lent (take i rs)) (take i xs) u → Did k rule u (asked lent r) a v →
      Replayed k rule t (all_asked lent (take (i + 1) rs)) (take (i + 1) ys) v
  replayed_more t u v lent i rs r xs ys a low is room wrote run did =
      let s : Step V = record { call = asked lent r; answer = a; table = v } in
      let ss = run.steps in
      let one_more : all_asked lent (take (i + 1) rs) ≡ all_asked lent (take i rs) ++ asked lent r ∷ [] =
      ap (all_asked lent) (take_more rs i r low ∙ ap (λ x. take i rs ++ x ∷ []) (sym is)) ∙ map-append (asked lent) (take i rs) (r ∷ []) in
      let noted : take (i + 1) ys ≡ take i xs ++ a ∷ [] = ap (take (i + 1)) wrote ∙ take_more_set xs i a room in
      replayed_as t v (ss ++ s ∷ []) _ _
      (ran_more t ss s run.ran (subst (λ x. Did k rule x (asked lent r) a v) (sym run.left) did))
      (map-append (λ (x : Step V). x.call) ss (s ∷ []) ∙ ap (λ l. l ++ asked lent r ∷ []) run.made ∙ sym one_more)
      (map-append (λ (x : Step V). x.answer) ss (s ∷ []) ∙ ap (λ l. l ++ a ∷ []) run.answered ∙ sym noted)
      (last_more t ss s)
