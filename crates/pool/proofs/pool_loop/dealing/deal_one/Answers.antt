use Rattle.std.proofs.Common.{◌≡◌, ◌≢◌, ◌<◌, ℕ, List, length, refl, subst, arith, rules}
use Rattle.std.specs.Prelude.{All, IsSomeAnd, slice_get}
use Rattle.std.specs.Vec.{vec_len}
use Rattle.pool.specs.declared.pool_loop.dealing.Coming.{Coming}
use Rattle.pool.proofs.pool_loop.Changing.{comes_to_one, comes_to_none, is_place, none_of}
use Rattle.pool.proofs.pool_loop.dealing.deal_one.Goals as goal

-- the channels that were looked through are those that are changed
there : (cs seen : List Coming) (place id : ℕ) → seen ≡ cs → IsSomeAnd (slice_get seen place) (λ (x : Coming). x.config.channel.id ≡ id) → IsSomeAnd (slice_get cs place) (λ (x : Coming). x.config.channel.id ≡ id)
there cs seen place id same is = subst (λ (l : List Coming). IsSomeAnd (slice_get l place) (λ (x : Coming). x.config.channel.id ≡ id)) same is

nowhere : (cs seen : List Coming) (id : ℕ) → seen ≡ cs → All (λ (x : Coming). x.config.channel.id ≢ id) seen → All (λ (x : Coming). x.config.channel.id ≢ id) cs
nowhere cs seen id same none = subst (All (λ (x : Coming). x.config.channel.id ≢ id)) same none

pub returns-in_default : goal.returns-in_default
returns-in_default c =
    comes_to_none c.args.channels.now.items c.args.id c.args.event
    (nowhere c.args.channels.now.items c.deref.result.now c.args.id c.deref.ensures.value (none_of c.place_of.result (All (λ (x : Coming). x.config.channel.id ≢ c.args.id) c.deref.result.now) c.place_of.ensures.none c.in_default.not-Some))

pub index_mut-requires : goal.index_mut-requires
index_mut-requires c =
    let cs = c.args.channels.now in
    let many : vec_len cs ≡ length cs.items = search rules in
    let inside : c.in-Some.place < length cs.items = is_place cs.items c.in-Some.place _ (there cs.items c.deref.result.now c.in-Some.place c.args.id c.deref.ensures.value c.in-Some.ensures.there) in
    omega (arith, many, inside)

pub returns : goal.returns
returns c =
    let one = c.index_mut.result.now in
    comes_to_one c.args.channels.now.items c.in-Some.place c.args.id one (record one { events = c.push.new.self }) c.args.event (there c.args.channels.now.items c.deref.result.now c.in-Some.place c.args.id c.deref.ensures.value c.in-Some.ensures.there) c.index_mut.ensures.value refl c.in_ok-push.ensures.items c.requires.once
