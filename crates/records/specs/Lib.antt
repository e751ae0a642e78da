-- Records: their layout, and the kinds.
-- To be believed: Record (the layout), Kind (the kind table). Not to be believed: Number, which inner contracts alone name, and
-- everything below Laws, which is proved of them.
pub mod Record
pub mod Kind
pub mod Number
pub mod Laws
