-- Ports are dealt to workers one by one, the last one first.
use Rattle.std.proofs.Common.{List, Some, [], ap, arith, inl, inr, length, refl, set, slice_get, subst, sym, ℕ, ◌%◌, ◌++◌, ◌+◌, ◌<◌, ◌⊎◌, ◌∙◌, ◌∷◌, ◌≡◌, ◌≢◌, ◌≤◌}
use Rattle.std.proofs.lemmas.{Bool.cases_eq, Bool.cases_lt, List.length-set, List.length_push, Option.slice_get_within}
use Rattle.list_laws.proofs.Places.{at_front, one_there, seam_at}
use Rattle.crew_run.proofs.lemmas.Places.{each_push, member_at, one_some, set_other, set_same}
use Rattle.crew_run.specs.declared.worker.Worker.{Worker}
use Rattle.machine_run.specs.Dealt.{AreDealtFrom, ArePasses, HasPortOf, IsDealtFrom, IsMember}
use Rattle.machine_run.specs.code.Dealt.{AreIdle, HasGained}

module _ {S G : Type 0} where
  pub idle_more : (n : ℕ) (ws : List (Worker S G)) (worker : Worker S G) → AreIdle n ws → worker.members ≡ [] → AreIdle (n + 1) (ws ++ worker ∷ [])
  idle_more n ws worker so_far idle = record {
    count = length_push ws worker ∙ ap (λ k. k + 1) so_far.count;
    idle = each_push (λ (w : Worker S G). w.members ≡ []) ws worker so_far.idle idle;
  }

-- the last of some passes is that of the next port
pub passes_less : {P : Type 0} (port_of : P → ℕ) (May : P → Type 0) (n : ℕ) (passes front : List P) (pass : P) → ArePasses port_of May n passes → passes ≡ front ++ pass ∷ []
    → (n ≡ length front + 1) × ArePasses port_of May (length front) front × ((port_of pass ≡ length front) × May pass)
passes_less port_of May n passes front pass are is = (
  sym are.long ∙ (ap length is ∙ length_push front pass),
  record { long = refl; each = λ p x at. are.each p x (ap (λ ys. slice_get ys p) is ∙ (at_front front (pass ∷ []) p (slice_get_within front p x at) ∙ at)) },
  are.each (length front) pass (ap (λ ys. slice_get ys (length front)) is ∙ seam_at front pass []),
)

-- ---- a worker gets one member more

module _ {S G : Type 0} (ws : List (Worker S G)) (w : ℕ) (worker worker' : Worker S G) (new : S) (at : slice_get ws w ≡ Some worker) (given : worker'.members ≡ worker.members ++ new ∷ []) where
  low : w < length ws
  low = slice_get_within ws w worker at

  -- it is the last one
  pub member_new : IsMember (set ws w worker') w (length worker.members) new
  member_new = record { worker = worker'; worker_is = set_same ws w worker' low; member_is = ap (λ xs. slice_get xs (length worker.members)) given ∙ seam_at worker.members new [] }

  -- and the others stay
  pub member_kept : (v k : ℕ) (member : S) → IsMember ws v k member → IsMember (set ws w worker') v k member
  member_kept v k member is = elim (cases_eq v w) [
    | inl same ↦
        let one : worker ≡ is.worker = one_there ws w v worker is.worker (sym same) at is.worker_is in
        let there : slice_get worker.members k ≡ Some member = ap (λ (x : Worker S G). slice_get x.members k) one ∙ is.member_is in
        record {
          worker = worker';
          worker_is = ap (slice_get (set ws w worker')) same ∙ set_same ws w worker' low;
          member_is = ap (λ xs. slice_get xs k) given ∙ (at_front worker.members (new ∷ []) k (slice_get_within worker.members k member there) ∙ there);
        }
    | inr away ↦ record { worker = is.worker; worker_is = set_other ws w v worker' away ∙ is.worker_is; member_is = is.member_is }
  ]

  -- there are no more
  pub member_after : (v k : ℕ) (member : S) → IsMember (set ws w worker') v k member → IsMember ws v k member ⊎ ((v ≡ w) × (k ≡ length worker.members) × (new ≡ member))
  member_after v k member is = elim (cases_eq v w) [
    | inl same ↦
        let one : worker' ≡ is.worker = one_there (set ws w worker') w v worker' is.worker (sym same) (set_same ws w worker' low) is.worker_is in
        let there : slice_get (worker.members ++ new ∷ []) k ≡ Some member = ap (λ xs. slice_get xs k) (sym given) ∙ (ap (λ (x : Worker S G). slice_get x.members k) one ∙ is.member_is) in
        let within : k < length worker.members + 1 = (let inside = slice_get_within (worker.members ++ new ∷ []) k member there in omega (arith, inside, length_push worker.members new)) in
        elim (cases_lt k (length worker.members)) [
          | inl before ↦ inl (record { worker = worker; worker_is = ap (slice_get ws) same ∙ at; member_is = sym (at_front worker.members (new ∷ []) k before) ∙ there })
          | inr past ↦
              let last : k ≡ length worker.members = omega (arith, past, within) in
              inr (same, last, one_some new member (sym (ap (slice_get (worker.members ++ new ∷ [])) last ∙ seam_at worker.members new []) ∙ there))
        ]
    | inr away ↦ inl (record { worker = is.worker; worker_is = sym (set_other ws w v worker' away) ∙ is.worker_is; member_is = is.member_is })
  ]

-- ---- dealing

module _ {S G : Type 0} (port_of : S → ℕ) (Fits : S → Type 0) (workers ports host_at : ℕ) (host_is : host_at + 1 ≡ ports) where
  -- no port is dealt to idle workers
  pub none_dealt : (from : ℕ) (ws : List (Worker S G)) → AreIdle workers ws → ports ≤ from → AreDealtFrom port_of Fits workers ports host_at from ws
  none_dealt from ws idle past = record {
    count = idle.count;
    each = λ w k seat is. absurd (none w k seat is);
    apart = λ w j k a b is other away. absurd (none w j a is);
    all = λ p above low. absurd (omega (arith, above, low, past));
    host = λ above. absurd (omega (arith, above, host_is, past));
  } where
    none : (w k : ℕ) (seat : S) → IsMember ws w k seat → ⊥
    none w k seat is =
        let low = slice_get_within is.worker.members k seat is.member_is in
        omega (arith, low, ap length (idle.idle w is.worker is.worker_is))

  module _ (p w : ℕ) (ws : List (Worker S G)) (worker worker' : Worker S G) (seat : S) where
    with_more : AreDealtFrom port_of Fits workers ports host_at (p + 1) ws → Fits seat → port_of seat ≡ p → p < ports → w ≡ p % workers → slice_get ws w ≡ Some worker → worker'.members ≡ worker.members ++ seat ∷ []
        → AreDealtFrom port_of Fits workers ports host_at p (set ws w worker')
    with_more so_far seat_is port_is inside w_is at given = record {
      count = length-set ws w worker' ∙ so_far.count;
      each = λ v k one is. elim (after v k one is) [
        | inl old ↦ (let was = so_far.each v k one old in record { seat_is = was.seat_is; from_is = omega (arith, was.from_is); inside = was.inside; whose = was.whose })
        | inr last ↦ subst (IsDealtFrom port_of Fits workers ports p v) last.2 (subst (λ x. IsDealtFrom port_of Fits workers ports p x seat) (sym last.0) newest)
      ];
      apart = λ v j k a b is is' away. elim (after v j a is) [
        | inl old ↦ elim (after v k b is') [
          | inl other ↦ so_far.apart v j k a b old other away
          | inr last ↦ later a b (so_far.each v j a old).from_is last.2
        ]
        | inr last ↦ elim (after v k b is') [
          | inl other ↦ (λ same. later b a (so_far.each v k b other).from_is last.2 (sym same))
          | inr other ↦ absurd (away (last.1 ∙ sym other.1))
        ]
      ];
      all = λ q from low. elim (cases_lt p q) [
        | inl past ↦ (let old = so_far.all q (omega (arith, past)) low in (old.0, kept q old.0 old.1))
        | inr here ↦ (length worker.members, subst (λ x. HasPortOf port_of workers (set ws w worker') x (length worker.members)) (omega (arith, from, here)) last_port)
      ];
      host = λ from. elim (cases_lt p host_at) [
        | inl past ↦ kept host_at 0 (so_far.host (omega (arith, past)))
        | inr here ↦ subst (λ x. HasPortOf port_of workers (set ws w worker') x 0) (omega (arith, from, here)) (subst (HasPortOf port_of workers (set ws w worker') p) (alone (omega (arith, from, here, inside, host_is))) last_port)
      ];
    } where
      after : (v k : ℕ) (one : S) → IsMember (set ws w worker') v k one → IsMember ws v k one ⊎ ((v ≡ w) × (k ≡ length worker.members) × (seat ≡ one))
      after = member_after ws w worker worker' seat at given

      kept : (q k : ℕ) → HasPortOf port_of workers ws q k → HasPortOf port_of workers (set ws w worker') q k
      kept q k has = record { seat = has.seat; member = member_kept ws w worker worker' seat at given (q % workers) k has.seat has.member; port_is = has.port_is }

      newest : IsDealtFrom port_of Fits workers ports p w seat
      newest = record {
        seat_is = seat_is;
        from_is = omega (arith, port_is);
        inside = subst (λ q. q < ports) (sym port_is) inside;
        whose = ap (λ q. q % workers) port_is ∙ sym w_is;
      }

      later : (a b : S) → p + 1 ≤ port_of a → seat ≡ b → port_of a ≢ port_of b
      later a b above is same = let b_is : port_of b ≡ p = ap (λ (x : S). port_of x) (sym is) ∙ port_is in absurd (omega (arith, above, same, b_is))

      last_port : HasPortOf port_of workers (set ws w worker') p (length worker.members)
      last_port = record { seat = seat; member = subst (λ v. IsMember (set ws w worker') v (length worker.members) seat) w_is (member_new ws w worker worker' seat at given); port_is = port_is }

      -- the last port of all is the first that is dealt
      alone : p + 1 ≡ ports → length worker.members ≡ 0
      alone last = elim (cases_lt 0 (length worker.members)) [
        | inl some ↦
            let one = member_at worker.members 0 some in
            let was = so_far.each w 0 one.0 (record { worker = worker; worker_is = at; member_is = one.1 }) in
            absurd (omega (arith, was.from_is, was.inside, last))
        | inr none ↦ omega (arith, none)
      ]

  -- one port more is dealt
  pub more_dealt : (p w : ℕ) (ws ws' : List (Worker S G)) (seat : S) → AreDealtFrom port_of Fits workers ports host_at (p + 1) ws → Fits seat → port_of seat ≡ p → p < ports → w ≡ p % workers → HasGained ws w seat ws' → AreDealtFrom port_of Fits workers ports host_at p ws'
  more_dealt p w ws ws' seat so_far seat_is port_is inside w_is gain = subst (AreDealtFrom port_of Fits workers ports host_at p) (sym gain.is) (with_more p w ws gain.worker gain.worker' seat so_far seat_is port_is inside w_is gain.at gain.gained)
