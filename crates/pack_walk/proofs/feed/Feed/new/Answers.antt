use Rattle.pack_walk.proofs.feed.Feed.new.Goals as goal

pub first_rows-requires : goal.first_rows-requires
first_rows-requires c = rw c.as_slice.ensures c.requires.valid
