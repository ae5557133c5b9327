-- `put` moves a hub to the room behind the pointer.
use Rattle.std.proofs.Common.{◌≡◌, ℕ, List, [], ◌∷◌, ◌++◌, refl, sym, ap, ◌∙◌, subst}
use Rattle.std.specs.Prelude.{Bool, true, false}
use Rattle.std.proofs.raw_atomic.Walks.{proved_at}
use Rattle.std.proofs.VecSteps.Shapes.{after}
use seplogic.Ra.Ura.{Ura}
use base.Fraction.{full_share}
use base.Logic.{SProp, ent, emp, id⊢}
use base.Fml.{Lft, Share, ftrue, flft}
use lib.Dec.{T}
use mir.Syntax.{named}
use mir.Val.{Val, vunit, has_ty, WT}
use contract.Monad.{Fun, fact}
use contract.Running.{tables}
use prog.Memory.{Memory}
use prog.Routine.{Routine}
use prog.Wp.{Calls, Loops, WpFn}
use types.Logic.{Logic, sem}
use types.Kit.{‵, raw, ◌⊛◌, at_ret, ◌$◌, ◌∵◌, !, qed, done, move, keep, use1, use2, split, join, fsplit, fsplit3, fjoin, feq_i, rewrite, suffices, frame, group, updating, now}
use types.Part.{whole, sub, look_in}
use types.Run.{enter, of_opd, unit_lit, load, stop, fld, init, first, blocks, exec, assigns_last, returns}
use types.ByLocal.{alloc_all, pass_all, free_all, look_at, get, through, sets, env}
use borrow.Table.OneValue.{part_in}
use denote.Exit.{Last, left, rest, yes}
use denote.Param.Mute.{Mute, Mute-flat}
use denote.Laws.{shows, Typed}
use denote.Memory.{cell_at, part_at}
use denote.RawPtr.{Ptr, block_ptr, lies_at, room_at, in_a_block}
use denote.Ref.{MutBor, MutRef, mut_vals}
use denote.Signature.{plain}
use denote.Steps.{nothing, opens, closes, peeks, heard}
use denote.Struct.Owning.{shape}
use denote.Struct.Struct.{Struct}
use denote.Triple.Walked.{Stays, walk_of, says, stay_ref, stay_dropped, Goes-ref, Goes, ends_at}
use denote.Param.{layout}
use denote.Struct.Loose.{Looses, loose_lawful}
use Rattle.awareness.proofs.clock.SetClock.TheLaws as clock
use Rattle.awareness.specs.contracts.clock.SetClock.{the_row as clock_row}
use Rattle.boards.proofs.count_board.CountBoard.TheLaws as board
use Rattle.boards.specs.contracts.count_board.CountBoard.{the_row as board_row}
use Rattle.calls.proofs.policy.TagRanges.TheLaws as policy
use Rattle.calls.specs.contracts.policy.TagRanges.{the_row as policy_row}
use Rattle.document.proofs.tally.Tally.TheLaws as tally
use Rattle.document.specs.contracts.tally.Tally.{the_row as tally_row}
use Rattle.hub.proofs.hub.Hub.TheLaws as laws
use Rattle.hub.specs.contracts.hub.Hub.{the_type as hub_type}
use Rattle.hub_c.specs.Places.{ProductHub, owned, hub_row}
use Rattle.hub_c.specs.declared.place.Place.{Place}
use Rattle.hub_c.specs.contracts.place.Place.{the_row as R, the_type}
use Rattle.hub_c.specs.contracts.place.Place.put as f
use Rattle.hub_c.proofs.place.Place.TheLaws.{lowers}
use Rattle.hub_c.proofs.place.Place.put.Statement.{statement}
use Rattle.hub_c.proofs.place.Place.put.Code as code

abbrev stayed : Stays f.ended.signature.params f.ended.kept
stayed = (stay_ref (0 ∷ []) tt (plain (λ _. R)), (stay_dropped (plain (λ _. hub_row)) yes, tt))

-- what the hub's parts owe
abbrev parts : Looses (hub_type (tally_row board_row) clock_row policy_row).parts
parts = laws.the_loose (tally_row board_row) clock_row policy_row (tally.the_row_laws board_row board.the_row_laws) clock.the_row_laws policy.the_row_laws

-- nothing is learnt at the exit of the hub that was passed
mute : Mute (hub_row.exit yes)
mute = Mute-flat (λ x w. refl) (λ x. tt)

gone : {M : Type 1} {𝓤 : Ura M} (𝓛 : Logic 𝓤) → Goes 𝓛 1 (plain (λ _. hub_row)) yes (stay_dropped (plain (λ _. hub_row)) yes)
gone {M = M} {𝓤 = 𝓤} 𝓛 κs x f vs fits = qed 𝓛 (‵ ftrue ∷ []) ∵ updating ! $ now ! $
    use1 𝓛 (‵ (left (hub_row.exit yes) x f)) (subst (λ (w : Last (hub_row.exit yes) x). ent 𝓤 (emp 𝓤) (sem 𝓛 (left (hub_row.exit yes) x w))) (sym (mute.once x f)) (mute.quiet M 𝓤 𝓛 x)) $ done !

-- the machine value of a place
abbrev word : Place → ℕ → ℕ → List Val
word h b o = lowers.lowered (record h { at = block_ptr b o }) ∷ []

module _ {M : Type 1} {𝓤 : Ura M} (𝓛 : Logic 𝓤) (at_mem : Memory → SProp 𝓤) (run : Routine → Fun 𝓤) (C : Calls 𝓤 𝓛.H) (Λ : Loops 𝓤 𝓛.H) (κ : Lft) (q : Share) (self : MutBor Place) (x : ProductHub) where
  abbrev bound : List Val → List Val → (walk_of 𝓛 f.ended stayed (f.clauses 𝓛 at_mem run)).Ghost
  bound us vs = (((κ, tt), (q, tt), tt, (self, (x, tt)), (us, (vs, tt))), tt)

  abbrev Left : List Val → List Val → Val → SProp 𝓤
  Left us vs = (walk_of 𝓛 f.ended stayed (f.clauses 𝓛 at_mem run)).post (bound us vs)

  abbrev Runs : List Val → List Val → Type 1
  Runs us vs = ent 𝓤 ((walk_of 𝓛 f.ended stayed (f.clauses 𝓛 at_mem run)).pre (bound us vs)) (WpFn 𝓤 𝓛.H C Λ code.function (us ++ (vs ++ [])) (Left us vs))

  abbrev filled : Place
  filled = record self.now { made = true; hub = x }

  walk : (v : Val) → T (has_ty (layout hub_row) v) × WT v → Runs (mut_vals self) (v ∷ [])
  walk v typed =
      qed 𝓛 (((‵ (flft κ q) ⊛ ‵ ftrue) ⊛ ‵ ((MutRef (named 0) κ R).own_val self (mut_vals self)) ⊛ ‵ (hub_row.own_val x (v ∷ [])) ⊛ ‵ ftrue) ∷ (raw (fact 𝓤 (self.now.room ≡ true)) ⊛ raw (fact 𝓤 (self.now.made ≡ false))) ∷ []) ∵
      split ! $ split ! $ move ! (2 ∷ []) $ split ! $ move ! (1 ∷ []) $ split ! $ keep ! (5 ∷ 2 ∷ 3 ∷ 0 ∷ []) $ split ! $ heard ! _ (λ room. heard ! _ (λ empty.
      enter ! C Λ code.function (mut_vals self ++ (v ∷ [])) _ $ alloc_all ! (λ l. pass_all ! refl ((tt, tt), (typed, tt)) $
      fsplit3 ! $ move ! (1 ∷ 2 ∷ 3 ∷ []) $ opens ! tt R self.ref_ptr.0 self.ref_ptr.1 (λ us.
      move ! (1 ∷ []) $ peeks ! R _ (shows 𝓛 R) self.now us (λ is. fsplit ! $ move ! (1 ∷ []) $
      rewrite ! 0 (λ (s : Bool). ‵ (owned self.now.at self.now.room s self.now.hub)) empty refl $
      rewrite ! 0 (λ (s : Bool). ‵ (owned self.now.at s false self.now.hub)) room refl $
      in_a_block ! self.now.at (λ p. room_at hub_row p) (id⊢ 𝓤 _) (λ b o e.
      let at_b : us ≡ word self.now b o = lowers.val_is self.now us is ∙ ap (λ (p : Ptr). lowers.lowered (record self.now { at = p }) ∷ []) e in
      rewrite ! 1 (λ (ws : List Val). ‵ ((Struct (shape the_type)).own_val (self.now.at, tt) ws)) at_b refl $
      rewrite ! 2 (λ (ws : List Val). ‵ (cell_at full_share R.mir ws self.ref_ptr.0 self.ref_ptr.1)) at_b refl $
      first ! $ blocks ! $
      sets ! (of_opd ! (load ! (through ! refl (fld ! refl (stop !))) (look_in ! 2 (sub ! 0 refl (whole !))))) refl (tt, tt) $
      sets ! (of_opd ! (get ! refl)) refl (tt, tt) $
      assigns_last ! (of_opd ! (get ! refl)) (through ! refl (stop !)) (init ! 0 refl typed) $
      exec ! C Λ (env code.function.locals l) (after 1 code.function.body) (at_ret (env code.function.locals l) (Left (mut_vals self) (v ∷ []))) $
      sets ! (of_opd ! (unit_lit !)) refl (tt, tt) $
      move ! (0 ∷ 7 ∷ []) $ use2 𝓛 (‵ (part_at hub_row full_share x b o)) (part_in 𝓛 hub_row refl full_share x b o v) $
      rewrite ! 0 (λ (p : Ptr). ‵ (lies_at hub_row full_share p x)) (sym e) refl $
      move ! (1 ∷ []) $ fjoin ! $ move ! (1 ∷ []) $ closes ! tt R filled (word self.now b o) self.ref_ptr.0 self.ref_ptr.1 $
      returns ! (look_at ! 0 refl) $ free_all ! refl $ move ! (3 ∷ []) $
      suffices ! _ (ends_at 𝓛 f.ended stayed (f.clauses 𝓛 at_mem run) (bound (mut_vals self) (v ∷ [])) vunit tt (filled, (rest (hub_row.exit yes) x, tt)) (tt, (tt, tt))) $ says ! refl $
      group ! 3 $ nothing ! $ nothing ! $ join ! $ move ! (1 ∷ 0 ∷ []) $ join ! $ nothing ! $ move ! (2 ∷ 0 ∷ []) $ join ! $ frame ! $ frame ! $
      feq_i ! _ (vunit ∷ []) _ refl $ done !))))))

  -- the reference's machine value is its pointer, and the hub's is one value of its type
  entry : (us vs : List Val) → us ≡ mut_vals self → Typed hub_row.mir vs → Runs us vs
  entry us [] e t = absurd t
  entry us (v ∷ []) e t = subst (λ (ws : List Val). Runs ws (v ∷ [])) (sym e) (walk v t.0)
  entry us (v ∷ w ∷ vs) e t = absurd t.1

pub put_spec : {M : Type 1} → statement M
put_spec 𝓤 𝓛 𝓜 𝓡 wired =
    let 𝓣 = tables 𝓤 𝓛.H 𝓜 𝓡 𝓡.env in
    proved_at 𝓛 f.ended stayed (f.clauses 𝓛 𝓜.mem 𝓡.returns) 𝓜 𝓡 (Goes-ref 𝓛 1 0 tt (plain (λ _. R)), (gone 𝓛, tt))
    f.Key.name code.function (code.unfolded 𝓤 𝓛.H 𝓜 𝓡 wired) (λ y are.
    entry 𝓛 𝓜.mem 𝓡.returns 𝓣.C 𝓣.Λ y.0.0.0 y.0.1.0 y.0.3.0 y.0.3.1.0 y.0.4.0 y.0.4.1.0 are.0.0
    ((loose_lawful (hub_type (tally_row board_row) clock_row policy_row) parts 𝓛).typed y.0.3.1.0 y.0.4.1.0 are.1.0))
