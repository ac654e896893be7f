mod BytesLeft
mod FirstNamed
